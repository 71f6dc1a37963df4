-- What the services answer.
use Rattle.std.specs.Prelude.{false, [], ◌∷◌, ◌++◌, codes, bytes_eq, if◌then◌else◌}
use Rattle.http_core.specs.declared.message.Request.{Request}
use Rattle.http_core.specs.declared.message.Answer.{Answer}

abbrev pub echo_of : Request → Answer
echo_of request = record { status = 200; body = request.body; chunked = false }

abbrev pub target_of : Request → Answer
target_of request =
    let target = request.head.target in
    if bytes_eq target (codes "/empty") then record { status = 204; body = []; chunked = false }
    else (if bytes_eq target (codes "/none") then record { status = 404; body = codes "none"; chunked = false }
    else record { status = 200; body = request.head.method ++ 32 ∷ target; chunked = bytes_eq target (codes "/chunk") })
