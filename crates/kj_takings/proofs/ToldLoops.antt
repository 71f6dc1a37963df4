-- What lists of calls tell, from a new loop on.
use Rattle.std.proofs.Common.{◌≡◌, ℕ, ◌+◌, ◌≤◌, List, [], ◌∷◌, Bool, true, false, not, ◌||◌, ◌&&◌, Option, None, Some, arith, refl, sym, ap, ◌∙◌, subst}
use Rattle.std.proofs.lemmas.Bool.{false≢true}
use Rattle.kj_base.specs.declared.numbers.Limits.{Limits}
use Rattle.kj_model.specs.World.{State, Setting, Held, RequestOf, held_at, new_state}
use Rattle.kj_model.specs.Uses.{is_live_request}
use Rattle.kj_model.specs.Calls.{Call, call, calls}
use Rattle.kj_model.specs.Framed.{times}
use Rattle.kj_model.proofs.Counts.{times_app}
use Rattle.kj_ownership.specs.Fits.{Fits}
use Rattle.kj_ownership.specs.Kept.{Kept, is_open, TakesSpent}
use Rattle.kj_ownership.specs.Standing.{one_if}
use Rattle.kj_ownership.proofs.Calls.{call_keeps, new_kept}
use Rattle.kj_takings.specs.Told.{ended_names, is_request, has_request, has_ended, begins, begun, tells_end, ends_told, NoneCloses, IsReached, ask_told, lost_told, told_in, TellsOnce}
use Rattle.kj_takings.proofs.ToldListed.{Tales, Listed, tells_once}
use Rattle.kj_takings.proofs.ToldCalls.{told_spent, no_tales, new_listed, afresh, afresh_listed, Goes, call_goes}

-- what holds of a loop between two calls
pub record Reaches (told : Tales) (s : State) : Type 0 where
  pub kept : Kept s
  pub none : told.pending ≡ []
  pub listed : Listed told s.world

pub tells : (told : Tales) (s : State) → Reaches told s → TellsOnce s.world
tells told s r = tells_once told s.world r.none r.listed

pub goes : (told : Tales) (setting : Setting) (c : Call) (s : State) → Fits setting → is_open c ≡ true → Reaches told s → Goes told c (call setting c s).1 s.world (call setting c s).0.world
goes told setting c s fits opens r = call_goes told setting c s fits opens r.kept r.none r.listed

pub goes_on : (told : Tales) (setting : Setting) (c : Call) (s : State) → (fits : Fits setting) → (opens : is_open c ≡ true) → (r : Reaches told s) → Reaches (goes told setting c s fits opens r).after (call setting c s).0
goes_on told setting c s fits opens r =
    let g = goes told setting c s fits opens r in
    record { kept = call_keeps setting c s fits opens (told_spent c s.world (tells told s r)) r.kept; none = g.pending ∙ r.none; listed = g.listed }

pub new_reaches : (limits : Limits) → Reaches no_tales (new_state limits)
new_reaches limits = record { kept = new_kept limits; none = refl; listed = new_listed limits }

pub all_reach : (told : Tales) (setting : Setting) (cs : List Call) (s : State) → Fits setting → NoneCloses cs → Reaches told s → (after : Tales) × Reaches after (calls setting cs s).0
all_reach told setting [] s fits opens r = (told, r)
all_reach told setting (c ∷ cs) s fits opens r = all_reach (goes told setting c s fits opens.0 r).after setting cs (call setting c s).0 fits opens.1 (goes_on told setting c s fits opens.0 r)

pub reached : (setting : Setting) (s : State) → Fits setting → IsReached setting s → (told : Tales) × Reaches told s
reached setting s fits r = subst (λ (t : State). (told : Tales) × Reaches told t) (sym r.here) (all_reach no_tales setting r.before (new_state r.limits) fits r.opens (new_reaches r.limits))

-- a call from such a state
pub reached_goes : (setting : Setting) (c : Call) (s : State) → Fits setting → is_open c ≡ true → IsReached setting s → (told : Tales) × (Listed told s.world) × Goes (afresh s.world told) c (call setting c s).1 s.world (call setting c s).0.world
reached_goes setting c s fits opens r =
    let x = reached setting s fits r in
    (x.0, x.1.listed, call_goes (afresh s.world x.0) setting c s fits opens x.1.kept x.1.none (afresh_listed x.0 s.world x.1.listed))

pub reached_tells : (setting : Setting) (s : State) → Fits setting → IsReached setting s → TellsOnce s.world
reached_tells setting s fits r = let x = reached setting s fits r in tells x.0 s x.1

pub reached_spent : (setting : Setting) (c : Call) (s : State) → Fits setting → IsReached setting s → TakesSpent c s.world
reached_spent setting c s fits r = told_spent c s.world (reached_tells setting s fits r)

pub reached_kept : (setting : Setting) (s : State) → Fits setting → IsReached setting s → Kept s
reached_kept setting s fits r = (reached setting s fits r).1.kept

-- each ask is told once, and each abandoned cell
asks_told : (told : Tales) (setting : Setting) (cs : List Call) (s : State) → Fits setting → NoneCloses cs → Reaches told s → (p : ℕ) → times p (told_in ask_told setting cs s) + one_if (told.asks p) ≤ 1
asks_told told setting [] s fits opens r p = one_at_most (told.asks p)
  where
    one_at_most : (b : Bool) → 0 + one_if b ≤ 1
    one_at_most true = omega arith
    one_at_most false = omega arith
asks_told told setting (c ∷ cs) s fits opens r p =
    let g = goes told setting c s fits opens.0 r in
    let h = asks_told g.after setting cs (call setting c s).0 fits opens.1 (goes_on told setting c s fits opens.0 r) p in
    let a = g.asks p in
    let b = times_app p (ask_told c s.world) (told_in ask_told setting cs (call setting c s).0) in
    omega (arith, h, a, b)

lost_told_once : (told : Tales) (setting : Setting) (cs : List Call) (s : State) → Fits setting → NoneCloses cs → Reaches told s → (p : ℕ) → times p (told_in lost_told setting cs s) + one_if (told.lost p) ≤ 1
lost_told_once told setting [] s fits opens r p = one_at_most (told.lost p)
  where
    one_at_most : (b : Bool) → 0 + one_if b ≤ 1
    one_at_most true = omega arith
    one_at_most false = omega arith
lost_told_once told setting (c ∷ cs) s fits opens r p =
    let g = goes told setting c s fits opens.0 r in
    let h = lost_told_once g.after setting cs (call setting c s).0 fits opens.1 (goes_on told setting c s fits opens.0 r) p in
    let a = g.lost p in
    let b = times_app p (lost_told c s.world) (told_in lost_told setting cs (call setting c s).0) in
    omega (arith, h, a, b)

pub asks_once : (setting : Setting) (limits : Limits) (cs : List Call) → Fits setting → NoneCloses cs → (p : ℕ) → times p (told_in ask_told setting cs (new_state limits)) ≤ 1
asks_once setting limits cs fits opens p = let h = asks_told no_tales setting cs (new_state limits) fits opens (new_reaches limits) p in omega (arith, h)

pub lost_once : (setting : Setting) (limits : Limits) (cs : List Call) → Fits setting → NoneCloses cs → (p : ℕ) → times p (told_in lost_told setting cs (new_state limits)) ≤ 1
lost_once setting limits cs fits opens p = let h = lost_told_once no_tales setting cs (new_state limits) fits opens (new_reaches limits) p in omega (arith, h)

-- each request that began was told, or is listed, or runs
one_step : (b t was after : Bool) → after ≡ (not t && (b || was)) → (b ≡ true → was ≡ false) → (t ≡ true → was ≡ true) → one_if b + one_if was ≡ one_if t + one_if after
one_step true true was after e f h = absurd (false≢true (sym (f refl) ∙ h refl))
one_step true false was after e f h = ap (λ (x : Bool). 1 + one_if x) (f refl) ∙ sym (ap (λ (x : Bool). 0 + one_if x) e)
one_step false true was after e f h = ap (λ (x : Bool). 0 + one_if x) (h refl) ∙ sym (ap (λ (x : Bool). 1 + one_if x) e)
one_step false false was after e f h = ap (λ (x : Bool). 0 + one_if x) (sym e)

ends_count : (told : Tales) (setting : Setting) (cs : List Call) (s : State) → Fits setting → NoneCloses cs → Reaches told s → (r : ℕ) → begun r cs (calls setting cs s).1 + one_if (told.requests r) ≡ ends_told r (calls setting cs s).1 + one_if (has_request (calls setting cs s).0.world r)
ends_count told setting [] s fits opens h r = ap (λ (b : Bool). 0 + one_if b) (sym (h.listed.requests r))
ends_count told setting (c ∷ cs) s fits opens h r =
    let g = goes told setting c s fits opens.0 h in
    let x = call setting c s in
    let ih = ends_count g.after setting cs x.0 fits opens.1 (goes_on told setting c s fits opens.0 h) r in
    let a = one_step (begins r c x.1) (tells_end r x.1) (told.requests r) (g.after.requests r) (g.requests r) (g.new r) (g.was r) in
    omega (arith, ih, a)

ended_or_runs : (o : Option Held) → one_if (is_request o) ≡ one_if (has_ended o) + one_if (is_live_request o)
ended_or_runs (Some (RequestOf None)) = refl
ended_or_runs (Some (RequestOf (Some n))) = refl
ended_or_runs None = refl
ended_or_runs (Some _) = refl

pub ends_once : (setting : Setting) (limits : Limits) (cs : List Call) (r : ℕ) → Fits setting → NoneCloses cs → begun r cs (calls setting cs (new_state limits)).1 ≡ ends_told r (calls setting cs (new_state limits)).1 + (times r (ended_names (calls setting cs (new_state limits)).0.world.ended) + one_if (is_live_request (held_at r (calls setting cs (new_state limits)).0.world.names)))
ends_once setting limits cs r fits opens =
    let h = ends_count no_tales setting cs (new_state limits) fits opens (new_reaches limits) r in
    let x = all_reach no_tales setting cs (new_state limits) fits opens (new_reaches limits) in
    let a = (tells x.0 (calls setting cs (new_state limits)).0 x.1).ended r in
    let b = ended_or_runs (held_at r (calls setting cs (new_state limits)).0.world.names) in
    omega (arith, h, a, b)
