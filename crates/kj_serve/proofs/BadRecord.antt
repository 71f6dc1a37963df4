-- An input that is no recording.
use Rattle.std.proofs.Common.{◌≡◌, ◌⊎◌, ℕ, List, length, Option, Some, inl, inr, ap, subst, arith}
use Rattle.kj_io.specs.Causes.{Rose}
use Rattle.conn_record.specs.Records.{IsRecording, IsNoRecording, IsWholeUpTo}
use Rattle.http_core.specs.declared.message.Request.{Request}
use Rattle.http_core.specs.declared.message.Answer.{Answer}
use Rattle.kj_serve.specs.Outside.{Outside, ReadWhole, Wrote, WroteFrontOf, WroteNothing}
use Rattle.kj_serve.specs.Replay.{ReplayEnds, ReadBad, bad_record, whole_in}
use Rattle.conn_record.specs.Refused.{IsRefusal}
use Rattle.conn_record.specs.declared.read.RecordRefused.{RecordRefused}
use Rattle.conn_record.specs.declared.read.RecordRefused.TheVariants.{Bad, NoMemory}
use Rattle.kj_serve.proofs.Refused.{none_of, this_or_five, whole_input}

pub bad_ends : (f : Request → Answer) (status whole : ℕ) (before after : Outside) (octets : List ℕ) → ReadWhole before after octets → IsNoRecording octets → IsWholeUpTo octets whole
    → (status ≡ 1 → Wrote before after (bad_record whole)) → (status ≡ 4 → Rose before.writes after.writes × WroteFrontOf before after (bad_record whole)) → (status ≡ 5 → WroteNothing before after)
    → (status ≡ 1) ⊎ (status ≡ 4) ⊎ (status ≡ 5) → ReplayEnds f status before after
bad_ends f status whole before after octets read none up_to wrote failed nothing which =
    let bad : ReadBad before after whole = record { input = octets; read = read; none = none; up_to = up_to } in
    let same = λ (input : List ℕ) (known : before.left ≡ Some input). whole_input before.left after.left input octets known read.read read.at_end in
    record {
      done = λ e. absurd (none_of status 1 0 e (λ x. omega arith) (λ x. omega arith) (λ x. omega arith) which);
      bad = λ e. (whole, bad, wrote e);
      read_failed = λ e. absurd (none_of status 1 3 e (λ x. omega arith) (λ x. omega arith) (λ x. omega arith) which);
      write_failed = λ e. ((failed e).0, inr (whole, bad, (failed e).1));
      no_memory = nothing;
      too_long = λ e. absurd (none_of status 1 6 e (λ x. omega arith) (λ x. omega arith) (λ x. omega arith) which);
      statuses = elim which [ inl a ↦ inr (inl a) | inr a ↦ elim a [ inl b ↦ inr (inr (inr (inl b))) | inr b ↦ inr (inr (inr (inr (inl b)))) ] ];
      replays = λ input known fine conns is short. absurd (none conns (subst (λ (x : List ℕ). IsRecording x conns) (same input known) is));
      refuses = λ input known fine none' short. this_or_five status 1 before after (bad_record whole) failed which fine;
      refuses_long = λ input known fine long. absurd (omega (arith, ap length (same input known), read.short, long));
    }

-- what is said of a bad recording, by its number
pub bad_is : (octets : List ℕ) (refused : RecordRefused) (whole : ℕ) → IsRefusal octets refused → whole_in refused ≡ Some whole → IsNoRecording octets × IsWholeUpTo octets whole
bad_is octets (Bad n) whole is same = (is.0, subst (λ (k : ℕ). IsWholeUpTo octets k) (same_some n whole same) is.1)
  where
    same_some : (a b : ℕ) → ◌≡◌ {A = Option ℕ} (Some a) (Some b) → a ≡ b
    same_some a b e = cc
bad_is octets NoMemory whole is same = absurd (cc (same))

-- want of memory, with nothing written
pub memory_ends : (f : Request → Answer) (status : ℕ) (before after : Outside) → status ≡ 5 → WroteNothing before after → ReplayEnds f status before after
memory_ends f status before after five nothing = record {
  done = λ e. absurd (omega (arith, five, e));
  bad = λ e. absurd (omega (arith, five, e));
  read_failed = λ e. absurd (omega (arith, five, e));
  write_failed = λ e. absurd (omega (arith, five, e));
  no_memory = λ e. nothing;
  too_long = λ e. absurd (omega (arith, five, e));
  statuses = inr (inr (inr (inr (inl five))));
  replays = λ input known fine conns is short. inr five;
  refuses = λ input known fine none short. inr five;
  refuses_long = λ input known fine long. inr five;
}
