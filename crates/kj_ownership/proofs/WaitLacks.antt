-- A wait answers that there was no memory only where a step found none.
use Rattle.std.proofs.Common.{◌≡◌, ◌∙◌, refl, sym, subst, ℕ, zero, suc, Bool, true, false, Option, None, Some}
use Rattle.std.specs.Prelude.{◌==◌}
use Rattle.kj_base.specs.declared.outcomes.Outcome.{Outcome}
use Rattle.kj_base.specs.Queue.{head_of}
use Rattle.kj_model.specs.World.{State, Setting, Awaited, Held, Promise, held_at}
use Rattle.kj_model.specs.Changes.{silent, unnamed}
use Rattle.kj_model.specs.Value.{value}
use Rattle.kj_model.specs.Calls.{Turned, NoMemory, turned_by, turn, Waited, WaitNoMemory, with_awaited, held_awaited, wait_valued, wait_value_at, wait_turned, wait_turn, wait_more, wait_held, wait_unless, wait}
use Rattle.kj_ownership.specs.Memory.{FindsMemory, LacksMemory}
use Rattle.kj_ownership.proofs.KeepsRunning.{listened_runs}
use Rattle.kj_ownership.proofs.Lacks.{Leaves, value_leaves}
use Rattle.kj_ownership.proofs.Turns.{turn_answers}
use Rattle.kj_ownership.proofs.TurnLacks.{turn_lacks}

-- where this is what a wait comes to
abbrev pub IfLacking : Setting → State × Waited → Type 0
IfLacking setting r = r.1 ≡ WaitNoMemory → LacksMemory setting r.0.past

-- the awaited tree is evaluated
valued_lacks : (setting : Setting) (b : Bool) (o : Option Outcome) (t : State) → Leaves setting b o t → IfLacking setting (wait_valued o t)
valued_lacks setting b None t h e = h.lacks
valued_lacks setting b (Some o) t h e = cc

done_lacks : (setting : Setting) (o : Option Awaited) (s : State) → IfLacking setting (wait_value_at setting o s)
done_lacks setting None s e = cc
done_lacks setting (Some a) s e = let r = value setting a.root s in valued_lacks setting s.world.stopped r.1 r.0 (value_leaves setting a.root s) e

-- its turns
abbrev pub Lacking : Setting → (State → State × Waited) → Type 0
Lacking setting rest = (s : State) → s.world.stopped ≡ false → IfLacking setting (rest s)

by_stopped : (setting : Setting) (rest : State → State × Waited) (z b : Bool) (s : State) → s.world.stopped ≡ b → (turned_by b ≡ NoMemory → LacksMemory setting s.past) → Lacking setting rest → IfLacking setting (wait_turned setting rest z (turned_by b) s)
by_stopped setting rest true true s is lacks h e = lacks refl
by_stopped setting rest false true s is lacks h e = lacks refl
by_stopped setting rest true false s is lacks h e = done_lacks setting s.world.awaited s e
by_stopped setting rest false false s is lacks h e = h s is e

head_lacks : (setting : Setting) (rest : State → State × Waited) (o : Option ℕ) (s : State) → head_of s.world.queue ≡ o → Lacking setting rest → s.world.stopped ≡ false → IfLacking setting (wait_turn setting rest o s)
head_lacks setting rest None s head h runs e = cc
head_lacks setting rest (Some n) s head h runs e =
    let r = turn setting s in
    let answer = turn_answers setting s n runs head in
    let lacks : r.1 ≡ NoMemory → LacksMemory setting r.0.past = turn_lacks setting s in
    let by = by_stopped setting rest (n == 0) r.0.world.stopped r.0 refl (λ k. lacks (answer ∙ k)) h in
    subst (λ (t : Turned). IfLacking setting (wait_turned setting rest (n == 0) t r.0)) (sym answer) by e

more_lacks : (setting : Setting) (n : ℕ) → Lacking setting (wait_more setting n)
more_lacks setting zero s runs e = cc
more_lacks setting (suc n) s runs e = head_lacks setting (wait_more setting n) (head_of s.world.queue) s refl (more_lacks setting n) runs e

held_lacks : (setting : Setting) (name n : ℕ) (o : Option Held) (s : State) → s.world.stopped ≡ false → IfLacking setting (wait_held setting name n o s)
held_lacks setting name n None s runs e = cc
held_lacks setting name n (Some (Promise root)) s runs e =
    let a : Awaited = record { name = name; root = root } in
    more_lacks setting n (silent (held_awaited name root) s) (listened_runs root (with_awaited (Some a) (unnamed name s.world)) ∙ runs) e
held_lacks setting name n (Some _) s runs e = cc

unless_lacks : (setting : Setting) (b : Bool) (name n : ℕ) (s : State) → s.world.stopped ≡ b → IfLacking setting (wait_unless b setting name n s)
unless_lacks setting true name n s is e = cc
unless_lacks setting false name n s is e = held_lacks setting name n (held_at name s.world.names) s is e

pub wait_lacks : (setting : Setting) (name n : ℕ) (s : State) → (wait setting name n s).1 ≡ WaitNoMemory → LacksMemory setting (wait setting name n s).0.past
wait_lacks setting name n s e = unless_lacks setting s.world.stopped name n s refl e

-- so none does where steps find memory
pub wait_found : (setting : Setting) (name n : ℕ) (s : State) → FindsMemory setting → (wait setting name n s).1 ≡ WaitNoMemory → ⊥
wait_found setting name n s finds e = let l = wait_lacks setting name n s e in finds (wait setting name n s).0.past l.0 l.1
