use Rattle.std.proofs.Common.{◌++◌, refl}
use Rattle.http_core.specs.Requests.{replies, end_text}
use Rattle.http_core.proofs.TotalLemmas.{requests_of}
use Rattle.http_core.proofs.laws.some_output.Goals as goal

pub returns : goal.returns
returns c f bytes =
    let read = requests_of bytes in
    (replies f read.0 ++ end_text read.1, record { requests = read.0; end = read.1; reads = read.2; output_is = refl })
