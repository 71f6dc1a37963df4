-- Turn by turn.
use Rattle.std.proofs.Common.{ℕ, suc, List, [], length, ◌≡◌, ◌∙◌, ◌-◌, ◌≤◌, Bool, true, false, refl, sym, ap, subst, arith}
use Rattle.std.specs.Prelude.{nat_eq}
use Rattle.std.proofs.lemmas.Bool.{false≢true}
use Rattle.std.proofs.lemmas.Bool.Decides.{nat_tests}
use Rattle.kj_model.specs.Calls.{Turns, let_go, wait_more}
use Rattle.kj_model.specs.World.{State, Setting}
use Rattle.promise_turns.specs.declared.turned.TakenTurn.TheVariants.{Fired, Idle as IdleIn, NoMemory as NoMemoryIn}
use Rattle.loop_core.specs.Calls.{CallIs}
use Rattle.loop_core.specs.Waits.{Rested, Waits, lacked_at, left_of_wait}
use Rattle.loop_core.specs.declared.waiting.WaitEnd.TheVariants.{AllMade, Ready, Idle, NoMemory}
use Rattle.loop_core.proofs.Called.{Found, call_then, found_none, found_only, found_then, stands_still}
use Rattle.loop_core.proofs.WaitTurns.{TakenIs, found_rested, last_lacks, none_fired, none_found, other_fired, own_fired}
use Rattle.loop_core.proofs.waiting.wait_turns.Goals as goal

isnt_zero : (n : ℕ) → (n ≡ 0 → ⊥) → nat_eq n 0 ≡ false
isnt_zero n h = by (nat_eq n 0) refl
  where
    same : nat_eq n 0 ≡ true → n ≡ 0
    same e = grind (arith, nat_tests)

    by : (b : Bool) → nat_eq n 0 ≡ b → nat_eq n 0 ≡ false
    by true e = absurd (h (same e))
    by false e = e

none_left : (n : ℕ) → n ≤ 0 → n ≡ 0
none_left n h = omega (arith, h)

few_by : (xs : List ℕ) → xs ≡ [] → length xs ≤ 1
few_by xs none = let e = ap length none in omega (arith, e)

pub loop-left-init : goal.loop-left-init
loop-left-init g c =
    let A : State → Type 0 = Waits g.N.Nodes.rule (g.N.Nodes.stands c.args.over.now.nodes) (g.M.Names.stands c.args.over.now.names) in
    (c.requires.none_over, found_none A g.N.Nodes.rule (λ setting. wait_more setting c.args.turns) _ _)

pub take_turn-requires : goal.take_turn-requires
take_turn-requires g c = record { none_over = c.loop-left.invariant.0 }

pub returns-then-event-eq0-clause-waits : goal.returns-then-event-eq0-clause-waits
returns-then-event-eq0-clause-waits g c =
    let A : State → Type 0 = Waits g.N.Nodes.rule (g.N.Nodes.stands c.args.over.now.nodes) (g.M.Names.stands c.args.over.now.names) in
    let B : State → Type 0 = Waits g.N.Nodes.rule (g.N.Nodes.stands c.loop-left.over.nodes) (g.M.Names.stands c.loop-left.over.names) in
    let rest : ℕ = c.loop-left.left - 1 in
    let same : suc rest ≡ c.loop-left.left = omega (arith, c.loop-left-test.true) in
    let t : TakenIs g.N.Nodes.rule (g.N.Nodes.stands c.loop-left.over.nodes) (g.M.Names.stands c.loop-left.over.names) (g.N.Nodes.stands c.take_turn.new.over.nodes) (g.M.Names.stands c.take_turn.new.over.names) (Fired c.in-Fired.event) (g.S.Steps.told c.loop-left.steps) (g.S.Steps.told c.take_turn.new.steps) (g.S.Steps.lacks c.loop-left.steps) (g.S.Steps.lacks c.take_turn.new.steps) = record { acts = c.in-Fired.ensures.turns; memory = c.in-Fired.ensures.memory; event = c.in-Fired.ensures.event } in
    let C : State → Type 0 = Rested g.N.Nodes.rule (g.N.Nodes.stands c.take_turn.new.over.nodes) (g.M.Names.stands c.take_turn.new.over.names) in
    let last = subst (λ (k : ℕ). Found B C g.N.Nodes.rule (λ (setting : Setting). wait_more setting k) (λ (setting : Setting). left_of_wait Ready setting) (g.S.Steps.told c.loop-left.steps) (g.S.Steps.told c.take_turn.new.steps) (g.S.Steps.lacks c.loop-left.steps) (g.S.Steps.lacks c.take_turn.new.steps)) same
    (own_fired g.N.Nodes.rule (g.N.Nodes.stands c.loop-left.over.nodes) (g.M.Names.stands c.loop-left.over.names) (g.N.Nodes.stands c.take_turn.new.over.nodes) (g.M.Names.stands c.take_turn.new.over.names) c.in-Fired.event rest _ _ _ _ (ap (λ (n : ℕ). nat_eq n 0) c.if-event-eq0.true) t) in
    found_only (lacked_at Ready) A C g.N.Nodes.rule (λ (setting : Setting). wait_more setting c.args.turns) (λ (setting : Setting). left_of_wait Ready setting) _ _ _ _
    (found_then A B C g.N.Nodes.rule (λ (setting : Setting). wait_more setting c.args.turns) (λ (setting : Setting). wait_more setting c.loop-left.left) (λ (setting : Setting). left_of_wait Ready setting) _ _ _ _ _ _ c.loop-left.invariant.1 last)

pub returns-then-event-eq0-clause-memory : goal.returns-then-event-eq0-clause-memory
returns-then-event-eq0-clause-memory g c =
    let t : TakenIs g.N.Nodes.rule (g.N.Nodes.stands c.loop-left.over.nodes) (g.M.Names.stands c.loop-left.over.names) (g.N.Nodes.stands c.take_turn.new.over.nodes) (g.M.Names.stands c.take_turn.new.over.names) (Fired c.in-Fired.event) (g.S.Steps.told c.loop-left.steps) (g.S.Steps.told c.take_turn.new.steps) (g.S.Steps.lacks c.loop-left.steps) (g.S.Steps.lacks c.take_turn.new.steps) = record { acts = c.in-Fired.ensures.turns; memory = c.in-Fired.ensures.memory; event = c.in-Fired.ensures.event } in
    last_lacks g.N.Nodes.rule (g.N.Nodes.stands c.args.over.now.nodes) (g.M.Names.stands c.args.over.now.names) (g.N.Nodes.stands c.loop-left.over.nodes) (g.M.Names.stands c.loop-left.over.names) (g.N.Nodes.stands c.take_turn.new.over.nodes) (g.M.Names.stands c.take_turn.new.over.names) (λ (setting : Setting). wait_more setting c.args.turns) (λ (setting : Setting). wait_more setting c.loop-left.left) (Fired c.in-Fired.event) _ _ _ _ _ _ c.loop-left.invariant.1 t

pub returns-then-event-eq0-clause-none_over : goal.returns-then-event-eq0-clause-none_over
returns-then-event-eq0-clause-none_over g c = λ e. c.in-Fired.ensures.none_over refl

pub returns-then-event-eq0-clause-over : goal.returns-then-event-eq0-clause-over
returns-then-event-eq0-clause-over g c = c.take_turn.ensures.over

pub loop-left-preserved : goal.loop-left-preserved
loop-left-preserved g c =
    let A : State → Type 0 = Waits g.N.Nodes.rule (g.N.Nodes.stands c.args.over.now.nodes) (g.M.Names.stands c.args.over.now.names) in
    let B : State → Type 0 = Waits g.N.Nodes.rule (g.N.Nodes.stands c.loop-left.over.nodes) (g.M.Names.stands c.loop-left.over.names) in
    let rest : ℕ = c.loop-left.left - 1 in
    let same : suc rest ≡ c.loop-left.left = omega (arith, c.loop-left-test.true) in
    let t : TakenIs g.N.Nodes.rule (g.N.Nodes.stands c.loop-left.over.nodes) (g.M.Names.stands c.loop-left.over.names) (g.N.Nodes.stands c.take_turn.new.over.nodes) (g.M.Names.stands c.take_turn.new.over.names) (Fired c.in-Fired.event) (g.S.Steps.told c.loop-left.steps) (g.S.Steps.told c.take_turn.new.steps) (g.S.Steps.lacks c.loop-left.steps) (g.S.Steps.lacks c.take_turn.new.steps) = record { acts = c.in-Fired.ensures.turns; memory = c.in-Fired.ensures.memory; event = c.in-Fired.ensures.event } in
    let C : State → Type 0 = Waits g.N.Nodes.rule (g.N.Nodes.stands c.take_turn.new.over.nodes) (g.M.Names.stands c.take_turn.new.over.names) in
    let first = subst (λ (k : ℕ). Found B C g.N.Nodes.rule (λ (setting : Setting). wait_more setting k) (λ (setting : Setting). wait_more setting rest) (g.S.Steps.told c.loop-left.steps) (g.S.Steps.told c.take_turn.new.steps) (g.S.Steps.lacks c.loop-left.steps) (g.S.Steps.lacks c.take_turn.new.steps)) same
    (other_fired g.N.Nodes.rule (g.N.Nodes.stands c.loop-left.over.nodes) (g.M.Names.stands c.loop-left.over.names) (g.N.Nodes.stands c.take_turn.new.over.nodes) (g.M.Names.stands c.take_turn.new.over.names) c.in-Fired.event rest _ _ _ _ (isnt_zero c.in-Fired.event.number.0 c.if-event-eq0.false) t) in
    (c.in-Fired.ensures.none_over refl, found_then A B C g.N.Nodes.rule (λ (setting : Setting). wait_more setting c.args.turns) (λ (setting : Setting). wait_more setting c.loop-left.left) (λ (setting : Setting). wait_more setting rest) _ _ _ _ _ _ c.loop-left.invariant.1 first)

pub returns-in-Idle-clause-waits : goal.returns-in-Idle-clause-waits
returns-in-Idle-clause-waits g c =
    let A : State → Type 0 = Waits g.N.Nodes.rule (g.N.Nodes.stands c.args.over.now.nodes) (g.M.Names.stands c.args.over.now.names) in
    let B : State → Type 0 = Waits g.N.Nodes.rule (g.N.Nodes.stands c.loop-left.over.nodes) (g.M.Names.stands c.loop-left.over.names) in
    let rest : ℕ = c.loop-left.left - 1 in
    let same : suc rest ≡ c.loop-left.left = omega (arith, c.loop-left-test.true) in
    let t : TakenIs g.N.Nodes.rule (g.N.Nodes.stands c.loop-left.over.nodes) (g.M.Names.stands c.loop-left.over.names) (g.N.Nodes.stands c.take_turn.new.over.nodes) (g.M.Names.stands c.take_turn.new.over.names) IdleIn (g.S.Steps.told c.loop-left.steps) (g.S.Steps.told c.take_turn.new.steps) (g.S.Steps.lacks c.loop-left.steps) (g.S.Steps.lacks c.take_turn.new.steps) = record { acts = c.in-Idle.ensures.turns; memory = c.in-Idle.ensures.memory; event = c.in-Idle.ensures.event } in
    let C : State → Type 0 = Rested g.N.Nodes.rule (g.N.Nodes.stands c.take_turn.new.over.nodes) (g.M.Names.stands c.take_turn.new.over.names) in
    let last = subst (λ (k : ℕ). Found B C g.N.Nodes.rule (λ (setting : Setting). wait_more setting k) (λ (setting : Setting). left_of_wait Idle setting) (g.S.Steps.told c.loop-left.steps) (g.S.Steps.told c.take_turn.new.steps) (g.S.Steps.lacks c.loop-left.steps) (g.S.Steps.lacks c.take_turn.new.steps)) same
    (none_fired g.N.Nodes.rule (g.N.Nodes.stands c.loop-left.over.nodes) (g.M.Names.stands c.loop-left.over.names) (g.N.Nodes.stands c.take_turn.new.over.nodes) (g.M.Names.stands c.take_turn.new.over.names) rest _ _ _ _ t) in
    found_only (lacked_at Idle) A C g.N.Nodes.rule (λ (setting : Setting). wait_more setting c.args.turns) (λ (setting : Setting). left_of_wait Idle setting) _ _ _ _
    (found_then A B C g.N.Nodes.rule (λ (setting : Setting). wait_more setting c.args.turns) (λ (setting : Setting). wait_more setting c.loop-left.left) (λ (setting : Setting). left_of_wait Idle setting) _ _ _ _ _ _ c.loop-left.invariant.1 last)

pub returns-in-Idle-clause-memory : goal.returns-in-Idle-clause-memory
returns-in-Idle-clause-memory g c =
    let t : TakenIs g.N.Nodes.rule (g.N.Nodes.stands c.loop-left.over.nodes) (g.M.Names.stands c.loop-left.over.names) (g.N.Nodes.stands c.take_turn.new.over.nodes) (g.M.Names.stands c.take_turn.new.over.names) IdleIn (g.S.Steps.told c.loop-left.steps) (g.S.Steps.told c.take_turn.new.steps) (g.S.Steps.lacks c.loop-left.steps) (g.S.Steps.lacks c.take_turn.new.steps) = record { acts = c.in-Idle.ensures.turns; memory = c.in-Idle.ensures.memory; event = c.in-Idle.ensures.event } in
    last_lacks g.N.Nodes.rule (g.N.Nodes.stands c.args.over.now.nodes) (g.M.Names.stands c.args.over.now.names) (g.N.Nodes.stands c.loop-left.over.nodes) (g.M.Names.stands c.loop-left.over.names) (g.N.Nodes.stands c.take_turn.new.over.nodes) (g.M.Names.stands c.take_turn.new.over.names) (λ (setting : Setting). wait_more setting c.args.turns) (λ (setting : Setting). wait_more setting c.loop-left.left) IdleIn _ _ _ _ _ _ c.loop-left.invariant.1 t

pub returns-in-Idle-clause-none_over : goal.returns-in-Idle-clause-none_over
returns-in-Idle-clause-none_over g c = λ e. c.in-Idle.ensures.none_over refl

pub returns-in-Idle-clause-over : goal.returns-in-Idle-clause-over
returns-in-Idle-clause-over g c = c.take_turn.ensures.over

pub returns-in-NoMemory-clause-waits : goal.returns-in-NoMemory-clause-waits
returns-in-NoMemory-clause-waits g c =
    let A : State → Type 0 = Waits g.N.Nodes.rule (g.N.Nodes.stands c.args.over.now.nodes) (g.M.Names.stands c.args.over.now.names) in
    let B : State → Type 0 = Waits g.N.Nodes.rule (g.N.Nodes.stands c.loop-left.over.nodes) (g.M.Names.stands c.loop-left.over.names) in
    let rest : ℕ = c.loop-left.left - 1 in
    let same : suc rest ≡ c.loop-left.left = omega (arith, c.loop-left-test.true) in
    let t : TakenIs g.N.Nodes.rule (g.N.Nodes.stands c.loop-left.over.nodes) (g.M.Names.stands c.loop-left.over.names) (g.N.Nodes.stands c.take_turn.new.over.nodes) (g.M.Names.stands c.take_turn.new.over.names) NoMemoryIn (g.S.Steps.told c.loop-left.steps) (g.S.Steps.told c.take_turn.new.steps) (g.S.Steps.lacks c.loop-left.steps) (g.S.Steps.lacks c.take_turn.new.steps) = record { acts = c.in-NoMemory.ensures.turns; memory = c.in-NoMemory.ensures.memory; event = c.in-NoMemory.ensures.event } in
    let C : State → Type 0 = Rested g.N.Nodes.rule (g.N.Nodes.stands c.take_turn.new.over.nodes) (g.M.Names.stands c.take_turn.new.over.names) in
    let last = subst (λ (k : ℕ). CallIs B C g.N.Nodes.rule (λ (setting : Setting). wait_more setting k) (λ (setting : Setting). left_of_wait NoMemory setting) (g.S.Steps.told c.loop-left.steps) (g.S.Steps.told c.take_turn.new.steps) (g.S.Steps.lacks c.loop-left.steps) (g.S.Steps.lacks c.take_turn.new.steps)) same
    (none_found g.N.Nodes.rule (g.N.Nodes.stands c.loop-left.over.nodes) (g.M.Names.stands c.loop-left.over.names) (g.N.Nodes.stands c.take_turn.new.over.nodes) (g.M.Names.stands c.take_turn.new.over.names) rest _ _ _ _ t) in
    record {
      call = call_then A B C g.N.Nodes.rule (λ (setting : Setting). wait_more setting c.args.turns) (λ (setting : Setting). wait_more setting c.loop-left.left) (λ (setting : Setting). left_of_wait NoMemory setting) _ _ _ _ _ _ c.loop-left.invariant.1.call c.loop-left.invariant.1.none last;
      only = λ e. absurd (false≢true (sym e));
    }

pub returns-in-NoMemory-clause-memory : goal.returns-in-NoMemory-clause-memory
returns-in-NoMemory-clause-memory g c =
    let t : TakenIs g.N.Nodes.rule (g.N.Nodes.stands c.loop-left.over.nodes) (g.M.Names.stands c.loop-left.over.names) (g.N.Nodes.stands c.take_turn.new.over.nodes) (g.M.Names.stands c.take_turn.new.over.names) NoMemoryIn (g.S.Steps.told c.loop-left.steps) (g.S.Steps.told c.take_turn.new.steps) (g.S.Steps.lacks c.loop-left.steps) (g.S.Steps.lacks c.take_turn.new.steps) = record { acts = c.in-NoMemory.ensures.turns; memory = c.in-NoMemory.ensures.memory; event = c.in-NoMemory.ensures.event } in
    last_lacks g.N.Nodes.rule (g.N.Nodes.stands c.args.over.now.nodes) (g.M.Names.stands c.args.over.now.names) (g.N.Nodes.stands c.loop-left.over.nodes) (g.M.Names.stands c.loop-left.over.names) (g.N.Nodes.stands c.take_turn.new.over.nodes) (g.M.Names.stands c.take_turn.new.over.names) (λ (setting : Setting). wait_more setting c.args.turns) (λ (setting : Setting). wait_more setting c.loop-left.left) NoMemoryIn _ _ _ _ _ _ c.loop-left.invariant.1 t

pub returns-in-NoMemory-clause-none_over : goal.returns-in-NoMemory-clause-none_over
returns-in-NoMemory-clause-none_over g c = λ e. absurd (false≢true (sym e))

pub returns-in-NoMemory-clause-over : goal.returns-in-NoMemory-clause-over
returns-in-NoMemory-clause-over g c = c.take_turn.ensures.over

pub returns-clause-waits : goal.returns-clause-waits
returns-clause-waits g c =
    let A : State → Type 0 = Waits g.N.Nodes.rule (g.N.Nodes.stands c.args.over.now.nodes) (g.M.Names.stands c.args.over.now.names) in
    let B : State → Type 0 = Waits g.N.Nodes.rule (g.N.Nodes.stands c.loop-left.over.nodes) (g.M.Names.stands c.loop-left.over.names) in
    let C : State → Type 0 = Rested g.N.Nodes.rule (g.N.Nodes.stands c.loop-left.over.nodes) (g.M.Names.stands c.loop-left.over.names) in
    let all = subst (λ (k : ℕ). Found A B g.N.Nodes.rule (λ (setting : Setting). wait_more setting c.args.turns) (λ (setting : Setting). wait_more setting k) (g.S.Steps.told c.args.steps.now) (g.S.Steps.told c.loop-left.steps) (g.S.Steps.lacks c.args.steps.now) (g.S.Steps.lacks c.loop-left.steps)) (none_left c.loop-left.left c.loop-left-test.false) c.loop-left.invariant.1 in
    found_only (lacked_at AllMade) A C g.N.Nodes.rule (λ (setting : Setting). wait_more setting c.args.turns) (λ (setting : Setting) (s : State). (let_go s, Turns)) _ _ _ _
    (found_rested A g.N.Nodes.rule (g.N.Nodes.stands c.loop-left.over.nodes) (g.M.Names.stands c.loop-left.over.names) (λ (setting : Setting). wait_more setting c.args.turns) (λ (setting : Setting) (s : State). (let_go s, Turns)) _ _ _ _ all)

pub returns-clause-memory : goal.returns-clause-memory
returns-clause-memory g c =
    let A : State → Type 0 = Waits g.N.Nodes.rule (g.N.Nodes.stands c.args.over.now.nodes) (g.M.Names.stands c.args.over.now.names) in
    let B : State → Type 0 = Waits g.N.Nodes.rule (g.N.Nodes.stands c.loop-left.over.nodes) (g.M.Names.stands c.loop-left.over.names) in
    stands_still A B g.N.Nodes.rule (λ (setting : Setting). wait_more setting c.args.turns) (λ (setting : Setting). wait_more setting c.loop-left.left) _ _ _ _ c.loop-left.invariant.1.call c.loop-left.invariant.1.none

pub returns-clause-none_over : goal.returns-clause-none_over
returns-clause-none_over g c = λ e. c.loop-left.invariant.0

pub returns-clause-over : goal.returns-clause-over
returns-clause-over g c = few_by (g.M.Names.over c.loop-left.over.names) c.loop-left.invariant.0
