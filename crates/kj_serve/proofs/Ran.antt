-- A script that ran.
use Rattle.std.proofs.Common.{◌≡◌, ◌⊎◌, ℕ, List, length, Some, inl, inr, ap, subst, arith}
use Rattle.kj_io.specs.Causes.{Rose}
use Rattle.promise_script.specs.Scripts.{IsBadLine, IsNotBuiltLine}
use Rattle.promise_script.proofs.Faults.{script_not_bad, script_built}
use Rattle.kj_serve.specs.Outside.{Outside, NoFault, ReadWhole, Wrote, WroteFrontOf}
use Rattle.kj_serve.specs.Run.{RunEnds, Ran, RunsTo}
use Rattle.kj_serve.proofs.Refused.{whole_input}

neither : (status other : ℕ) → status ≡ other → (other ≡ 0 → ⊥) → (other ≡ 4 → ⊥) → (status ≡ 0) ⊎ (status ≡ 4) → ⊥
neither status other e zero four (inl a) = zero (omega (arith, e, a))
neither status other e zero four (inr a) = four (omega (arith, e, a))

-- the log was written, or a write failed
pub ran_ends : (status : ℕ) (before after : Outside) (octets output : List ℕ) → ReadWhole before after octets → RunsTo octets output → (status ≡ 0 → Wrote before after output)
    → (status ≡ 4 → Rose before.writes after.writes × WroteFrontOf before after output) → (status ≡ 0) ⊎ (status ≡ 4) → RunEnds status before after
ran_ends status before after octets output read runs wrote failed which =
    let ran : Ran before after output = record { input = octets; read = read; runs = runs } in
    let same = λ (input : List ℕ) (known : before.left ≡ Some input). whole_input before.left after.left input octets known read.read read.at_end in
    let zero : NoFault before after → (status ≡ 0) ⊎ (status ≡ 5) = λ fine. elim which [ inl a ↦ inl a | inr a ↦ absurd (fine.writes (failed a).0) ] in
    record {
      done = λ e. (output, ran, wrote e);
      bad = λ e. absurd (neither status 1 e (λ x. omega arith) (λ x. omega arith) which);
      read_failed = λ e. absurd (neither status 3 e (λ x. omega arith) (λ x. omega arith) which);
      write_failed = λ e. ((failed e).0, inl (output, ran, (failed e).1));
      no_memory = λ e. absurd (neither status 5 e (λ x. omega arith) (λ x. omega arith) which);
      too_long = λ e. absurd (neither status 6 e (λ x. omega arith) (λ x. omega arith) which);
      not_built = λ e. absurd (neither status 9 e (λ x. omega arith) (λ x. omega arith) which);
      statuses = elim which [ inl a ↦ inl a | inr a ↦ inr (inr (inr (inl a))) ];
      runs = λ input known fine script text short. zero fine;
      refuses_bad = λ input known fine line is short. absurd (script_not_bad octets runs.script line runs.text (subst (λ (x : List ℕ). IsBadLine x line) (same input known) is));
      refuses_unbuilt = λ input known fine line is short. absurd (script_built octets runs.script line runs.text (subst (λ (x : List ℕ). IsNotBuiltLine x line) (same input known) is));
      refuses_long = λ input known fine long. absurd (omega (arith, ap length (same input known), read.short, long));
    }
