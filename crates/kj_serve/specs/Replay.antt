-- What the command `replay` does.
use Rattle.std.specs.Prelude.{◌≡◌, ◌⊎◌, ℕ, ◌<◌, ◌≤◌, List, [], ◌∷◌, length, Option, None, Some, codes}
use Rattle.kj_io.specs.Causes.{Rose}
use Rattle.conn_record.specs.Records.{IsRecording, IsNoRecording, IsWholeUpTo, reply_text}
use Rattle.conn_record.specs.declared.read.RecordRefused.{RecordRefused}
use Rattle.conn_record.specs.declared.read.RecordRefused.TheVariants.{Bad, NoMemory}
use Rattle.http_core.specs.declared.message.Request.{Request}
use Rattle.http_core.specs.declared.message.Answer.{Answer}
use Rattle.http_core.specs.Replies.{IsReplies}
use Rattle.http_core.specs.Services.{echo_of, target_of}
use Rattle.kj_serve.specs.declared.replay.ServiceName.{ServiceName}
use Rattle.kj_serve.specs.declared.replay.ServiceName.TheVariants.{Echo, Target}
use Rattle.kj_base.specs.declared.limits.TheConstants.{INPUT_LIMIT}
use Rattle.kj_serve.specs.Outside.{Outside, NoFault, ReadPast, ReadWhole, Wrote, WroteFrontOf, WroteNothing, numbered}

-- what a service answers
abbrev pub answers_of : ServiceName → Request → Answer
answers_of Echo = echo_of
answers_of Target = target_of

-- each of these is the replies to the octets of its connection
abbrev pub AreReplies : (Request → Answer) → List (List ℕ) → List (List ℕ) → Type 0
AreReplies f [] [] = Unit {0}
AreReplies f [] (r ∷ rs) = ⊥
AreReplies f (x ∷ xs) [] = ⊥
AreReplies f (x ∷ xs) (r ∷ rs) = IsReplies f x r × AreReplies f xs rs

-- the text of the replies to these connections, in order
pub record IsReplyText (f : Request → Answer) (conns : List (List ℕ)) (text : List ℕ) : Type 0 where
  pub replies : List (List ℕ)
  pub each : AreReplies f conns replies
  pub text_is : text ≡ reply_text replies

-- the input is a recording, and the output is the replies to its connections
pub record ReplaysTo (f : Request → Answer) (input output : List ℕ) : Type 0 where
  pub conns : List (List ℕ)
  pub recording : IsRecording input conns
  pub text : IsReplyText f conns output

-- the line of an input that is no recording
abbrev pub bad_record : ℕ → List ℕ
bad_record whole = numbered (codes "bad record ") whole

-- an input that is no recording was read to its end, with so many whole connections
pub record ReadBad (before after : Outside) (whole : ℕ) : Type 0 where
  pub input : List ℕ
  pub read : ReadWhole before after input
  pub none : IsNoRecording input
  pub up_to : IsWholeUpTo input whole

-- how many connections are whole, where a recording is bad
abbrev pub whole_in : RecordRefused → Option ℕ
whole_in (Bad whole) = Some whole
whole_in NoMemory = None

-- a recording was read to its end, and this text is the replies to its connections
pub record Replayed (f : Request → Answer) (before after : Outside) (output : List ℕ) : Type 0 where
  pub input : List ℕ
  pub read : ReadWhole before after input
  pub replays : ReplaysTo f input output

-- a front of the replies, or of the line of a bad input, was written
abbrev pub ReplayPart : (Request → Answer) → Outside → Outside → Type 0
ReplayPart f before after =
    ((output : List ℕ) × Replayed f before after output × WroteFrontOf before after output)
    ⊎ ((whole : ℕ) × ReadBad before after whole × WroteFrontOf before after (bad_record whole))

-- the command ended with this status
pub record ReplayEnds (f : Request → Answer) (status : ℕ) (before after : Outside) : Type 0 where
  pub done : status ≡ 0
      → (output : List ℕ) × Replayed f before after output × Wrote before after output
  pub bad : status ≡ 1
      → (whole : ℕ) × ReadBad before after whole × Wrote before after (bad_record whole)
  pub read_failed : status ≡ 3 → Rose before.reads after.reads × WroteNothing before after
  pub write_failed : status ≡ 4 → Rose before.writes after.writes × ReplayPart f before after
  pub no_memory : status ≡ 5 → WroteNothing before after
  -- exactly one octet more than the limit was read
  pub too_long : status ≡ 6 → ReadPast before after × WroteNothing before after
  pub statuses :
      (status ≡ 0) ⊎ (status ≡ 1) ⊎ (status ≡ 3) ⊎ (status ≡ 4) ⊎ (status ≡ 5) ⊎ (status ≡ 6)
  -- where the octets are known and nothing failed, a recording is replayed, and anything else is
  -- refused, unless memory runs out
  pub replays : (input : List ℕ) → before.left ≡ Some input → NoFault before after
      → (conns : List (List ℕ)) → IsRecording input conns → length input ≤ INPUT_LIMIT
      → (status ≡ 0) ⊎ (status ≡ 5)
  pub refuses : (input : List ℕ) → before.left ≡ Some input → NoFault before after
      → IsNoRecording input → length input ≤ INPUT_LIMIT → (status ≡ 1) ⊎ (status ≡ 5)
  pub refuses_long : (input : List ℕ) → before.left ≡ Some input → NoFault before after
      → INPUT_LIMIT < length input → (status ≡ 6) ⊎ (status ≡ 5)
