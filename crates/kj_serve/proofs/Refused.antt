-- A refused input.
use Rattle.std.proofs.Common.{◌≡◌, ◌⊎◌, ℕ, List, ◌++◌, length, Option, None, Some, inl, inr, sym, ap, ◌∙◌, subst, arith, append-nil}
use Rattle.std.specs.Io.KnownBytes.{Consumes, IsAtEnd}
use Rattle.kj_io.specs.Causes.{Rose}
use Rattle.promise_script.specs.Scripts.{IsScriptText, IsBadLine, IsNotBuiltLine}
use Rattle.promise_script.proofs.Faults.{script_not_bad, script_built, bad_or_not_built}
use Rattle.kj_serve.specs.Outside.{Outside, NoFault, ReadWhole, Wrote, WroteFrontOf, WroteNothing}
use Rattle.kj_serve.specs.Run.{RunEnds, ReadFaulty, bad_line, not_built_line}

same_some : (a b : List ℕ) → ◌≡◌ {A = Option (List ℕ)} (Some a) (Some b) → a ≡ b
same_some a b e = cc

-- where the octets are known, those that were read to the end are all of them
pub whole_input : (left new : Option (List ℕ)) (input octets : List ℕ) → left ≡ Some input → Consumes left new octets → IsAtEnd new → input ≡ octets
whole_input None new input octets known read at_end = absurd (cc (known))
whole_input (Some l) None input octets known read at_end = absurd read
whole_input (Some l) (Some rest) input octets known read at_end =
    sym (same_some l input known) ∙ read ∙ ap (λ (r : List ℕ). octets ++ r) at_end ∙ append-nil octets

-- a status that is none of three
pub none_of : (status first other : ℕ) → status ≡ other → (other ≡ first → ⊥) → (other ≡ 4 → ⊥) → (other ≡ 5 → ⊥) → (status ≡ first) ⊎ (status ≡ 4) ⊎ (status ≡ 5) → ⊥
none_of status first other e one four five (inl a) = one (omega (arith, e, a))
none_of status first other e one four five (inr (inl a)) = four (omega (arith, e, a))
none_of status first other e one four five (inr (inr a)) = five (omega (arith, e, a))

-- where no write failed
pub this_or_five : (status first : ℕ) (before after : Outside) (text : List ℕ) → (status ≡ 4 → Rose before.writes after.writes × WroteFrontOf before after text)
    → (status ≡ first) ⊎ (status ≡ 4) ⊎ (status ≡ 5) → NoFault before after → (status ≡ first) ⊎ (status ≡ 5)
this_or_five status first before after text failed (inl a) fine = inl a
this_or_five status first before after text failed (inr (inl a)) fine = absurd (fine.writes (failed a).0)
this_or_five status first before after text failed (inr (inr a)) fine = inr a

-- an input with a bad line
pub bad_line_ends : (status line : ℕ) (before after : Outside) (octets : List ℕ) → ReadWhole before after octets → IsBadLine octets line
    → (status ≡ 1 → Wrote before after (bad_line line)) → (status ≡ 4 → Rose before.writes after.writes × WroteFrontOf before after (bad_line line)) → (status ≡ 5 → WroteNothing before after)
    → (status ≡ 1) ⊎ (status ≡ 4) ⊎ (status ≡ 5) → RunEnds status before after
bad_line_ends status line before after octets read fault wrote failed nothing which =
    let faulty : ReadFaulty IsBadLine before after line = record { input = octets; read = read; fault = fault } in
    let same = λ (input : List ℕ) (known : before.left ≡ Some input). whole_input before.left after.left input octets known read.read read.at_end in
    record {
      done = λ e. absurd (none_of status 1 0 e (λ x. omega arith) (λ x. omega arith) (λ x. omega arith) which);
      bad = λ e. (line, faulty, wrote e);
      read_failed = λ e. absurd (none_of status 1 3 e (λ x. omega arith) (λ x. omega arith) (λ x. omega arith) which);
      write_failed = λ e. ((failed e).0, inr (inl (line, faulty, (failed e).1)));
      no_memory = nothing;
      too_long = λ e. absurd (none_of status 1 6 e (λ x. omega arith) (λ x. omega arith) (λ x. omega arith) which);
      not_built = λ e. absurd (none_of status 1 9 e (λ x. omega arith) (λ x. omega arith) (λ x. omega arith) which);
      statuses = elim which [ inl a ↦ inr (inl a) | inr a ↦ elim a [ inl b ↦ inr (inr (inr (inl b))) | inr b ↦ inr (inr (inr (inr (inl b)))) ] ];
      runs = λ input known fine script text short. absurd (script_not_bad octets script line (subst (λ (x : List ℕ). IsScriptText x script) (same input known) text) fault);
      refuses_bad = λ input known fine other is short. this_or_five status 1 before after (bad_line line) failed which fine;
      refuses_unbuilt = λ input known fine other is short. absurd (bad_or_not_built octets line other fault (subst (λ (x : List ℕ). IsNotBuiltLine x other) (same input known) is));
      refuses_long = λ input known fine long. absurd (omega (arith, ap length (same input known), read.short, long));
    }

-- an input with a line that isn't built yet
pub not_built_ends : (status line : ℕ) (before after : Outside) (octets : List ℕ) → ReadWhole before after octets → IsNotBuiltLine octets line
    → (status ≡ 9 → Wrote before after (not_built_line line)) → (status ≡ 4 → Rose before.writes after.writes × WroteFrontOf before after (not_built_line line)) → (status ≡ 5 → WroteNothing before after)
    → (status ≡ 9) ⊎ (status ≡ 4) ⊎ (status ≡ 5) → RunEnds status before after
not_built_ends status line before after octets read fault wrote failed nothing which =
    let faulty : ReadFaulty IsNotBuiltLine before after line = record { input = octets; read = read; fault = fault } in
    let same = λ (input : List ℕ) (known : before.left ≡ Some input). whole_input before.left after.left input octets known read.read read.at_end in
    record {
      done = λ e. absurd (none_of status 9 0 e (λ x. omega arith) (λ x. omega arith) (λ x. omega arith) which);
      bad = λ e. absurd (none_of status 9 1 e (λ x. omega arith) (λ x. omega arith) (λ x. omega arith) which);
      read_failed = λ e. absurd (none_of status 9 3 e (λ x. omega arith) (λ x. omega arith) (λ x. omega arith) which);
      write_failed = λ e. ((failed e).0, inr (inr (line, faulty, (failed e).1)));
      no_memory = nothing;
      too_long = λ e. absurd (none_of status 9 6 e (λ x. omega arith) (λ x. omega arith) (λ x. omega arith) which);
      not_built = λ e. (line, faulty, wrote e);
      statuses = elim which [ inl a ↦ inr (inr (inr (inr (inr (inr a))))) | inr a ↦ elim a [ inl b ↦ inr (inr (inr (inl b))) | inr b ↦ inr (inr (inr (inr (inl b)))) ] ];
      runs = λ input known fine script text short. absurd (script_built octets script line (subst (λ (x : List ℕ). IsScriptText x script) (same input known) text) fault);
      refuses_bad = λ input known fine other is short. absurd (bad_or_not_built octets other line (subst (λ (x : List ℕ). IsBadLine x other) (same input known) is) fault);
      refuses_unbuilt = λ input known fine other is short. this_or_five status 9 before after (not_built_line line) failed which fine;
      refuses_long = λ input known fine long. absurd (omega (arith, ap length (same input known), read.short, long));
    }
