-- Refusals of a command by its names and rows.
use Rattle.std.proofs.Common.{◌≡◌, ℕ, List, [], Option, None, Some, Bool, true, false, refl, sym, ap, ◌∙◌, subst, length, drop}
use Rattle.std.specs.Prelude.{nat_lt, not, ◌&&◌, ◌||◌, ◌^◌}
use Rattle.std.specs.List.{list_any}
use Rattle.std.specs.Prelude.{Result, Ok, Err, IsErrAnd}
use Rattle.promise_commands.specs.Refusals.{refused_of, refusal_of}
use Rattle.promise_commands.specs.declared.refused.Refused.{Refused as RefusedCase}
use Rattle.std.proofs.Math.Seq.{drop-length}
use Rattle.kj_base.specs.Commands.{Command, Action}
use Rattle.kj_base.specs.Places.{Row}
use Rattle.kj_base.specs.Record.{Item}
use Rattle.kj_model.specs.World.{World, State, Setting}
use Rattle.kj_model.specs.Changes.{silent}
use Rattle.kj_model.specs.Free.{Holding, usual}
use Rattle.kj_model.specs.Effects.{effect}
use Rattle.kj_model.specs.Uses.{Use, uses_of, first_failing, is_outside, is_unknown, is_wrong, is_taken}
use Rattle.kj_model.specs.Apply.{Refused, Unknown, WrongKind, Taken, Busy, Full, Stopped, apply, applied, refusal, refused_stopped, refused_inside, refused_unknown, refused_wrong, refused_taken, refused_busy, refused_full, is_full, is_busy, is_busy_at, is_free_of, would_free, would_settle, rows, names_after, is_none, name_of_first}
use Rattle.promise_apply.specs.Applying.{Rule, setting_of, IsApplied, Applies, IsCommand, IsIdle, ArePassed, names_refused, refused_for, refused_when, refused_if, refused_name, or_else, lacks_room, names_left}

both_false : (a b : Bool) → a ≡ false → b ≡ false → (a || b) ≡ false
both_false a b h k = rw (h, k) refl

and_false : (a b : Bool) → b ≡ false → (a && b) ≡ false
and_false true b h = h
and_false false b h = refl

-- the command frees nothing
frees_none : (n : ℕ) (c : Command) (s : State) (uses : List Use) (built : World → List Row) (change : World → World) → IsCommand c uses built change → would_free n c s ≡ false
frees_none n c s uses built change is =
    ap (λ (t : State). list_any (is_free_of n) (drop (length s.past) t.past)) (is.changes (Holding []) s)
    ∙ ap (list_any (is_free_of n)) (drop-length s.past)

never_busy_at : (firing : Option ℕ) (c : Command) (s : State) (uses : List Use) (built : World → List Row) (change : World → World) → IsCommand c uses built change → is_busy_at firing c s ≡ false
never_busy_at None c s uses built change is = refl
never_busy_at (Some n) c s uses built change is = both_false (would_settle n c s.world) (would_free n c s) (is.spares n s.world) (frees_none n c s uses built change is)

-- so it is never Busy
pub never_busy : (c : Command) (s : State) (uses : List Use) (built : World → List Row) (change : World → World) → IsCommand c uses built change → is_busy c s ≡ false
never_busy c s uses built change is = never_busy_at s.world.firing c s uses built change is

full_is : (b : Bool) → refused_full b ≡ refused_if b Full
full_is true = refl
full_is false = refl

-- whether it is Full
full_same : (rule : Rule) (answer : List Item → ℕ → Option Action) (c : Command) (w : World) (uses : List Use) (built : List Row) → uses_of c ≡ uses → rows c w ≡ built → is_full (setting_of rule answer) c w ≡ lacks_room rule uses built w
full_same rule answer c w uses built uses_are rows_are =
    ap (λ (rs : List Row). not (rule w.limits.slots w.spots rs) || nat_lt w.limits.names (names_after c w) || (not (is_none rs) && nat_lt (2 ^ 63) w.next)) rows_are
    ∙ ap (λ (us : List Use). not (rule w.limits.slots w.spots built) || nat_lt w.limits.names (names_left us w) || (not (is_none built) && nat_lt (2 ^ 63) w.next)) uses_are

abbrev busy_or_full : Bool → Rule → List Use → List Row → World → Option Refused
busy_or_full busy rule uses built w = or_else (refused_if busy (Busy (name_of_first uses))) (refused_if (lacks_room rule uses built w) Full)

busy_same : (busy : Bool) (rule : Rule) (answer : List Item → ℕ → Option Action) (c : Command) (s : State) (uses : List Use) (built : List Row) → uses_of c ≡ uses → rows c s.world ≡ built
    → refused_busy busy (setting_of rule answer) c s ≡ busy_or_full busy rule uses built s.world
busy_same true rule answer c s uses built uses_are rows_are = ap (λ (us : List Use). Some (Busy (name_of_first us))) uses_are
busy_same false rule answer c s uses built uses_are rows_are =
    full_is (is_full (setting_of rule answer) c s.world)
    ∙ ap (λ (b : Bool). refused_if b Full) (full_same rule answer c s.world uses built uses_are rows_are)

taken_is : (busy : Bool) (rule : Rule) (answer : List Item → ℕ → Option Action) (c : Command) (s : State) (uses : List Use) (built : List Row) → uses_of c ≡ uses → rows c s.world ≡ built → (o : Option ℕ) → is_busy c s ≡ busy
    → refused_taken o (setting_of rule answer) c s ≡ or_else (refused_name Taken o) (busy_or_full busy rule uses built s.world)
taken_is busy rule answer c s uses built uses_are rows_are (Some n) is = refl
taken_is busy rule answer c s uses built uses_are rows_are None is =
    ap (λ (b : Bool). refused_busy b (setting_of rule answer) c s) is
    ∙ busy_same busy rule answer c s uses built uses_are rows_are

-- causes one after another
pub or_else_twice : (a b c : Option Refused) → or_else a (or_else b c) ≡ or_else (or_else a b) c
or_else_twice None b c = refl
or_else_twice (Some r) b c = refl

wrong_is : (setting : Setting) (c : Command) (s : State) (o : Option ℕ) (later : Option Refused) → refused_taken (first_failing (is_taken s.world) [] (uses_of c)) setting c s ≡ later → refused_wrong o setting c s ≡ or_else (refused_name WrongKind o) later
wrong_is setting c s (Some n) later e = refl
wrong_is setting c s None later e = e

unknown_is : (setting : Setting) (c : Command) (s : State) (o : Option ℕ) (later : Option Refused) → refused_wrong (first_failing (is_wrong s.world) [] (uses_of c)) setting c s ≡ later → refused_unknown o setting c s ≡ or_else (refused_name Unknown o) later
unknown_is setting c s (Some n) later e = refl
unknown_is setting c s None later e = e

stopped_is : (setting : Setting) (inside b : Bool) (c : Command) (s : State) (later : Option Refused) → is_outside c ≡ false → refused_unknown (first_failing (is_unknown s.world) [] (uses_of c)) setting c s ≡ later → refused_stopped b setting inside c s ≡ or_else (refused_if b Stopped) later
stopped_is setting inside true c s later out e = refl
stopped_is setting inside false c s later out e = ap (λ (b : Bool). refused_inside b setting c s) (and_false inside (is_outside c) out) ∙ e

-- why a command is refused that may be Busy
pub refusal_when : (busy : Bool) (rule : Rule) (answer : List Item → ℕ → Option Action) (inside : Bool) (c : Command) (s : State) (uses : List Use) (built : List Row)
    → uses_of c ≡ uses → rows c s.world ≡ built → is_outside c ≡ false → is_busy c s ≡ busy
    → refusal (setting_of rule answer) inside c s ≡ refused_when busy rule uses built s.world
refusal_when busy rule answer inside c s uses built uses_are rows_are anywhere is =
    let w = s.world in
    let us = uses_of c in
    let setting = setting_of rule answer in
    let full = busy_or_full busy rule uses built w in
    let unknown = refused_name Unknown (first_failing (is_unknown w) [] us) in
    let wrong = refused_name WrongKind (first_failing (is_wrong w) [] us) in
    let taken = refused_name Taken (first_failing (is_taken w) [] us) in
    let by_names = unknown_is setting c s (first_failing (is_unknown w) [] us) (or_else wrong (or_else taken full))
    (wrong_is setting c s (first_failing (is_wrong w) [] us) (or_else taken full)
    (taken_is busy rule answer c s uses built uses_are rows_are (first_failing (is_taken w) [] us) is)) in
    stopped_is setting inside w.stopped c s (or_else unknown (or_else wrong (or_else taken full))) anywhere by_names
    ∙ ap (or_else (refused_if w.stopped Stopped)) (ap (or_else unknown) (or_else_twice wrong taken full) ∙ or_else_twice unknown (or_else wrong taken) full)
    ∙ ap (λ (xs : List Use). or_else (refused_if w.stopped Stopped) (or_else (names_refused xs w) full)) uses_are

-- why it is refused
pub refusal_is : (rule : Rule) (answer : List Item → ℕ → Option Action) (inside : Bool) (c : Command) (s : State) (uses : List Use) (built : World → List Row) (change : World → World) → IsCommand c uses built change
    → refusal (setting_of rule answer) inside c s ≡ refused_for rule uses (built s.world) s.world
refusal_is rule answer inside c s uses built change is =
    refusal_when false rule answer inside c s uses (built s.world) is.uses_are (is.rows_are s.world) is.anywhere (never_busy c s uses built change is)

-- rows matter only where the names pass
pub none_first : (a b : Option Refused) → or_else a b ≡ None → (a ≡ None) × (b ≡ None)
none_first None b h = (refl, h)
none_first (Some r) b h = absurd (some_none r h)
  where
    some_none : (x : Refused) → ◌≡◌ {A = Option Refused} (Some x) None → ⊥
    some_none x e = cc

name_none : (make : ℕ → Refused) (o : Option ℕ) → refused_name make o ≡ None → o ≡ None
name_none make None h = refl
name_none make (Some n) h = absurd (some_none (make n) h)
  where
    some_none : (x : Refused) → ◌≡◌ {A = Option Refused} (Some x) None → ⊥
    some_none x e = cc

-- names that don't refuse pass
pub passed_names : (uses : List Use) (w : World) → names_refused uses w ≡ None → ArePassed uses w
passed_names uses w h =
    let unknown = refused_name Unknown (first_failing (is_unknown w) [] uses) in
    let wrong = refused_name WrongKind (first_failing (is_wrong w) [] uses) in
    let taken = refused_name Taken (first_failing (is_taken w) [] uses) in
    let first = none_first unknown (or_else wrong taken) h in
    let second = none_first wrong taken first.1 in
    record {
      unknown = name_none Unknown (first_failing (is_unknown w) [] uses) first.0;
      wrong = name_none WrongKind (first_failing (is_wrong w) [] uses) second.0;
      taken = name_none Taken (first_failing (is_taken w) [] uses) second.1;
    }

-- nothing refuses
pub passed : (rule : Rule) (uses : List Use) (built : List Row) (w : World) → refused_for rule uses built w ≡ None → ArePassed uses w
passed rule uses built w h =
    let first = none_first (refused_if w.stopped Stopped) (or_else (names_refused uses w) (refused_if (lacks_room rule uses built w) Full)) h in
    let second = none_first (names_refused uses w) (refused_if (lacks_room rule uses built w) Full) first.1 in
    passed_names uses w second.0

rows_case : (rule : Rule) (uses : List Use) (built built' : List Row) (w : World) (o : Option Refused) → names_refused uses w ≡ o → (ArePassed uses w → built ≡ built')
    → or_else o (refused_if (lacks_room rule uses built w) Full) ≡ or_else o (refused_if (lacks_room rule uses built' w) Full)
rows_case rule uses built built' w (Some r) e same = refl
rows_case rule uses built built' w None e same = ap (λ (rs : List Row). refused_if (lacks_room rule uses rs w) Full) (same (passed_names uses w e))

-- so rows that are the same there do as well
pub rows_alike : (rule : Rule) (uses : List Use) (built built' : List Row) (w : World) → (ArePassed uses w → built ≡ built') → refused_for rule uses built w ≡ refused_for rule uses built' w
rows_alike rule uses built built' w same = ap (or_else (refused_if w.stopped Stopped)) (rows_case rule uses built built' w (names_refused uses w) refl same)

-- a command that is refused changes nothing
pub refused_applies : (Old : World → Type 0) (rule : Rule) (r : Refused) (c : Command) (uses : List Use) (rowed : List Row) (built : World → List Row) (change : World → World) → IsCommand c uses built change
    → ((w : World) → Old w → refused_for rule uses rowed w ≡ Some r) → ((w : World) → Old w → ArePassed uses w → rowed ≡ built w) → Applies Old Old rule (Some r) c
refused_applies Old rule r c uses rowed built change is refused same answer inside s old =
    let why : refusal (setting_of rule answer) inside c s ≡ Some r =
    refusal_is rule answer inside c s uses built change is ∙ sym (rows_alike rule uses rowed (built s.world) s.world (same s.world old)) ∙ refused s.world old in
    subst (IsApplied Old s.past (Some r)) (sym (ap (λ (o : Option Refused). applied o c s) why)) (record { reply = refl; stands = old; past_is = refl })

abbrev with_none : State → State × Option Refused
with_none s = (s, None)

-- one that isn't has its effect
pub done_applies : (Old New : World → Type 0) (rule : Rule) (c : Command) (uses : List Use) (rowed : List Row) (built : World → List Row) (change : World → World) → IsCommand c uses built change
    → ((w : World) → Old w → refused_for rule uses rowed w ≡ None) → ((w : World) → Old w → ArePassed uses w → rowed ≡ built w) → ((w : World) → Old w → ArePassed uses w → New (change w)) → Applies Old New rule None c
done_applies Old New rule c uses rowed built change is none same new answer inside s old =
    let w = s.world in
    let why : refusal (setting_of rule answer) inside c s ≡ None =
    refusal_is rule answer inside c s uses built change is ∙ sym (rows_alike rule uses rowed (built w) w (same w old)) ∙ none w old in
    let what : apply (setting_of rule answer) inside c s ≡ (silent change s, None) =
    ap (λ (o : Option Refused). applied o c s) why ∙ ap (λ (t : State). with_none t) (is.changes (usual w) s) in
    subst (IsApplied New s.past None) (sym what) (record { reply = refl; stands = new w old (passed rule uses rowed w (none w old)); past_is = refl })

-- a refusal that is passed on
pub passed_on : (r : Result (Unit {0}) RefusedCase) (e : RefusedCase) → IsErrAnd r (λ x. x ≡ e) → refusal_of r ≡ Some (refused_of e)
passed_on (Ok x) e h = absurd h
passed_on (Err x) e h = ap (λ (y : RefusedCase). Some (refused_of y)) h

-- a command that is refused so
pub refused_so : (Old : World → Type 0) (rule : Rule) (r : Result (Unit {0}) RefusedCase) (e : RefusedCase) (c : Command) (uses : List Use) (rowed : List Row) (built : World → List Row) (change : World → World) → IsErrAnd r (λ x. x ≡ e) → IsCommand c uses built change
    → ((w : World) → Old w → Some (refused_of e) ≡ refused_for rule uses rowed w) → ((w : World) → Old w → ArePassed uses w → rowed ≡ built w) → Applies Old Old rule (refusal_of r) c
refused_so Old rule r e c uses rowed built change so is refused same =
    subst (λ (o : Option Refused). Applies Old Old rule o c) (sym (passed_on r e so)) (refused_applies Old rule (refused_of e) c uses rowed built change is (λ w old. sym (refused w old)) same)

-- an idle command frees nothing and settles nothing
idle_calm_at : (Old : World → Type 0) (firing : Option ℕ) (c : Command) (s : State) (uses : List Use) → IsIdle Old c uses → Old s.world → is_busy_at firing c s ≡ false
idle_calm_at Old None c s uses is old = refl
idle_calm_at Old (Some n) c s uses is old = both_false (would_settle n c s.world) (would_free n c s) (is.spares n s.world old)
    (ap (λ (t : State). list_any (is_free_of n) (drop (length s.past) t.past)) (is.changes (Holding []) s old)
    ∙ ap (list_any (is_free_of n)) (drop-length s.past))

idle_answer : (o : Option Refused) (c : Command) (s : State) → effect (usual s.world) c s ≡ s → applied o c s ≡ (s, o)
idle_answer None c s same = ap (λ (t : State). with_none t) same
idle_answer (Some r) c s same = refl

-- a command without effect, whose names are tested
pub idle_applies : (Old : World → Type 0) (rule : Rule) (o : Option Refused) (c : Command) (uses : List Use) → IsIdle Old c uses → ((w : World) → Old w → o ≡ refused_for rule uses [] w) → Applies Old Old rule o c
idle_applies Old rule o c uses is refused answer inside s old =
    let w = s.world in
    let why : refusal (setting_of rule answer) inside c s ≡ o =
    refusal_when false rule answer inside c s uses [] is.uses_are (is.rows_are w) is.anywhere (idle_calm_at Old w.firing c s uses is old) ∙ sym (refused w old) in
    let what : apply (setting_of rule answer) inside c s ≡ (s, o) = ap (λ (r : Option Refused). applied r c s) why ∙ idle_answer o c s (is.changes (usual w) s old) in
    subst (IsApplied Old s.past o) (sym what) (record { reply = refl; stands = old; past_is = refl })
