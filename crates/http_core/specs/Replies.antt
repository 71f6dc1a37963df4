-- The replies to all octets of a connection.
use Rattle.std.specs.Prelude.{◌≡◌, ℕ, List, ◌++◌}
use Rattle.http_core.specs.declared.message.Request.{Request}
use Rattle.http_core.specs.declared.message.Answer.{Answer}
use Rattle.http_core.specs.declared.message.End.{End}
use Rattle.http_core.specs.Requests.{Requests, replies, end_text}

-- the answers of a service to all requests of the octets, in order, and then the text of the fault that ends them
pub record IsReplies (f : Request → Answer) (bytes output : List ℕ) : Type 0 where
  pub requests : List Request
  pub end : End
  pub reads : Requests requests end bytes
  pub output_is : output ≡ replies f requests ++ end_text end
