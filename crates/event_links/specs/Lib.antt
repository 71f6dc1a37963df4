pub mod EventLinks
