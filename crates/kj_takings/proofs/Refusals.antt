-- A command is refused in both of two states that are alike, or in neither.
use Rattle.std.proofs.Common.{◌≡◌, ◌∙◌, refl, sym, ap, subst, suc, ℕ, ◌+◌, ◌≤◌, ◌^◌, List, [], ◌∷◌, ◌++◌, length, Bool, true, false, not, ◌&&◌, ◌||◌, Option, None, Some, arith}
use Rattle.std.specs.Prelude.{is_some, map, nat_lt, drop, option_to_list}
use Rattle.std.specs.List.{list_any}
use Rattle.std.proofs.lemmas.Bool.{false≢true}
use Rattle.std.proofs.lemmas.Bool.Decides.{nat_tests}
use Rattle.kj_base.specs.Commands.{Command, Then, Chain, Eager, Race, All, Fast, Add, Wrap, Cancel, Detach, Drop}
use Rattle.kj_base.specs.Record.{Item}
use Rattle.kj_model.specs.Nodes.{Entry, Form, form_at, is_in}
use Rattle.kj_model.specs.World.{World, State, Setting, Named, Held, Promise, CellOf, AskCell, HubOf, Group, Canceler, RequestOf, Awaited, Row, held_at}
use Rattle.kj_model.specs.Changes.{named, without_name}
use Rattle.kj_model.specs.Free.{Holding, usual}
use Rattle.kj_model.specs.Effects.{effect, wraps_of}
use Rattle.kj_model.specs.Uses.{Role, IsNew, IsSource, IsCell, IsAsk, IsHub, IsGroup, IsGroupAlone, IsCanceler, IsRequest, IsDroppable, Use, used_as, uses_of, is_outside, found_if, first_failing, is_new, is_source, used_before, is_name, is_unknown, has_role, is_wrong, is_taken_as, is_taken, has_empty_cell}
use Rattle.kj_model.specs.Apply.{Refused, refusal, refused_stopped, refused_inside, refused_unknown, refused_wrong, refused_taken, refused_busy, refused_full, is_busy, is_busy_at, is_full, would_free, is_free_of, would_settle, settles_wrap, is_unsettled_wrap, rows, before_source, anew, is_none, named_by, each_named, with_awaited, names_after, applied, apply}
use Rattle.kj_ownership.specs.Kept.{is_spent}
use Rattle.kj_takings.specs.Alike.{Lists, with_lists}
use Rattle.kj_takings.specs.Spared.{names_of, spares}
use Rattle.kj_takings.proofs.Names.{found_taken, held_spent, name_held, length_without, length_with}
use Rattle.kj_takings.proofs.Worlds.{Near, held_alike, read_alike, some_taken}
use Rattle.kj_takings.proofs.Calm.{Same, less_same}
use Rattle.kj_takings.proofs.Effects.{AllFirm, node_alike, effect_same}

-- the other way round
pub near_back : (loose : ℕ → Bool) (k : ℕ) (w v : World) → Near loose k w v → Near loose k v w
near_back loose k w v r =
    let a = r.alike in
    let l : Lists = record { names = w.names; asks = w.asks; ended = w.ended; abandoned = w.abandoned } in
    record {
      alike = record {
        lists = l;
        seen = sym (ap (with_lists l) a.seen);
        same = sym a.same;
        left = a.right;
        right = a.left;
        awaited = λ b e. a.awaited b (sym (ap (λ (u : World). u.awaited) a.seen) ∙ e);
      };
      left = r.right;
      right = r.left;
    }

pub same_back : (loose : ℕ → Bool) (k : ℕ) (s t : State) → Same loose k s t → Same loose k t s
same_back loose k s t r = record { world = near_back loose k s.world t.world r.world; past = sym r.past }

-- the tests that a command passes
pub record Passes (setting : Setting) (inside : Bool) (c : Command) (s : State) : Type 0 where
  pub runs : s.world.stopped ≡ false
  pub allowed : inside && is_outside c ≡ false
  pub known : first_failing (is_unknown s.world) [] (uses_of c) ≡ None
  pub right : first_failing (is_wrong s.world) [] (uses_of c) ≡ None
  pub free : first_failing (is_taken s.world) [] (uses_of c) ≡ None
  pub idle : is_busy c s ≡ false
  pub fits : is_full setting c s.world ≡ false

some_none : {A : Type 0} (x : A) → Some x ≡ None → ⊥
some_none x e = false≢true (sym (ap is_some e))

full_none : (b : Bool) → refused_full b ≡ None → b ≡ false
full_none true e = absurd (some_none Rattle.kj_model.specs.Apply.Full e)
full_none false e = refl

busy_none : (b : Bool) (setting : Setting) (c : Command) (s : State) → refused_busy b setting c s ≡ None → (b ≡ false) × (refused_full (is_full setting c s.world) ≡ None)
busy_none true setting c s e = absurd (some_none (Rattle.kj_model.specs.Apply.Busy (Rattle.kj_model.specs.Apply.name_of_first (uses_of c))) e)
busy_none false setting c s e = (refl, e)

taken_none : (o : Option ℕ) (setting : Setting) (c : Command) (s : State) → refused_taken o setting c s ≡ None → (o ≡ None) × (refused_busy (is_busy c s) setting c s ≡ None)
taken_none (Some n) setting c s e = absurd (some_none (Rattle.kj_model.specs.Apply.Taken n) e)
taken_none None setting c s e = (refl, e)

wrong_none : (o : Option ℕ) (setting : Setting) (c : Command) (s : State) → refused_wrong o setting c s ≡ None → (o ≡ None) × (refused_taken (first_failing (is_taken s.world) [] (uses_of c)) setting c s ≡ None)
wrong_none (Some n) setting c s e = absurd (some_none (Rattle.kj_model.specs.Apply.WrongKind n) e)
wrong_none None setting c s e = (refl, e)

unknown_none : (o : Option ℕ) (setting : Setting) (c : Command) (s : State) → refused_unknown o setting c s ≡ None → (o ≡ None) × (refused_wrong (first_failing (is_wrong s.world) [] (uses_of c)) setting c s ≡ None)
unknown_none (Some n) setting c s e = absurd (some_none (Rattle.kj_model.specs.Apply.Unknown n) e)
unknown_none None setting c s e = (refl, e)

inside_none : (b : Bool) (setting : Setting) (c : Command) (s : State) → refused_inside b setting c s ≡ None → (b ≡ false) × (refused_unknown (first_failing (is_unknown s.world) [] (uses_of c)) setting c s ≡ None)
inside_none true setting c s e = absurd (some_none Rattle.kj_model.specs.Apply.Inside e)
inside_none false setting c s e = (refl, e)

stopped_none : (b : Bool) (setting : Setting) (inside : Bool) (c : Command) (s : State) → refused_stopped b setting inside c s ≡ None → (b ≡ false) × (refused_inside (inside && is_outside c) setting c s ≡ None)
stopped_none true setting inside c s e = absurd (some_none Rattle.kj_model.specs.Apply.Stopped e)
stopped_none false setting inside c s e = (refl, e)

passes_of : (setting : Setting) (inside : Bool) (c : Command) (s : State) → refusal setting inside c s ≡ None → Passes setting inside c s
passes_of setting inside c s e =
    let a = stopped_none s.world.stopped setting inside c s e in
    let b = inside_none (inside && is_outside c) setting c s a.1 in
    let d = unknown_none (first_failing (is_unknown s.world) [] (uses_of c)) setting c s b.1 in
    let f = wrong_none (first_failing (is_wrong s.world) [] (uses_of c)) setting c s d.1 in
    let g = taken_none (first_failing (is_taken s.world) [] (uses_of c)) setting c s f.1 in
    let h = busy_none (is_busy c s) setting c s g.1 in
    record { runs = a.0; allowed = b.0; known = d.0; right = f.0; free = g.0; idle = h.0; fits = full_none (is_full setting c s.world) h.1 }

none_of : (setting : Setting) (inside : Bool) (c : Command) (s : State) → Passes setting inside c s → refusal setting inside c s ≡ None
none_of setting inside c s p =
    ap (λ (b : Bool). refused_stopped b setting inside c s) p.runs
    ∙ ap (λ (b : Bool). refused_inside b setting c s) p.allowed
    ∙ ap (λ (o : Option ℕ). refused_unknown o setting c s) p.known
    ∙ ap (λ (o : Option ℕ). refused_wrong o setting c s) p.right
    ∙ ap (λ (o : Option ℕ). refused_taken o setting c s) p.free
    ∙ ap (λ (b : Bool). refused_busy b setting c s) p.idle
    ∙ ap refused_full p.fits

-- names in their roles
abbrev pub is_ask : Role → Bool
is_ask IsAsk = true
is_ask other = false

-- an ask's name holds the same in both
abbrev pub AllFair : (ℕ → Bool) → World → World → List Use → Type 0
AllFair loose w v [] = Unit {0}
AllFair loose w v (u ∷ us) = (is_ask u.role ≡ true → (loose u.name ≡ false) × (held_at u.name v.names ≡ held_at u.name w.names)) × AllFair loose w v us

abbrev AllRight : World → List Use → Type 0
AllRight w [] = Unit {0}
AllRight w (u ∷ us) = (has_role u.role (held_at u.name w.names) ≡ true) × AllRight w us

found_none : (b : Bool) (n : ℕ) (o : Option ℕ) → found_if b n o ≡ None → (b ≡ false) × (o ≡ None)
found_none true n o e = absurd (some_none n e)
found_none false n o e = (refl, e)

not_false : (b : Bool) → not b ≡ false → b ≡ true
not_false true e = refl
not_false false e = absurd (false≢true (sym e))

not_true : (b : Bool) → not b ≡ true → b ≡ false
not_true false e = refl
not_true true e = absurd (false≢true e)

right_of : (w : World) (before us : List Use) → first_failing (is_wrong w) before us ≡ None → AllRight w us
right_of w before [] e = tt
right_of w before (u ∷ us) e =
    let p = found_none (is_wrong w before u) u.name (first_failing (is_wrong w) (before ++ u ∷ []) us) e in
    (not_false (has_role u.role (held_at u.name w.names)) p.0, right_of w (before ++ u ∷ []) us p.1)

right_none : (w : World) (before us : List Use) → AllRight w us → first_failing (is_wrong w) before us ≡ None
right_none w before [] h = refl
right_none w before (u ∷ us) h = ap (λ (b : Bool). found_if (not b) u.name (first_failing (is_wrong w) (before ++ u ∷ []) us)) h.0 ∙ right_none w (before ++ u ∷ []) us h.1

role_unspent : (role : Role) (h : Option Held) → is_new role ≡ false → is_ask role ≡ false → has_role role h ≡ true → is_spent h ≡ true → ⊥
role_unspent IsNew h n a p e = false≢true (sym n)
role_unspent IsAsk h n a p e = false≢true (sym a)
role_unspent IsSource (Some (Promise root)) n a p e = false≢true e
role_unspent IsSource None n a p e = false≢true p
role_unspent IsSource (Some _) n a p e = false≢true p
role_unspent IsCell (Some (CellOf cell)) n a p e = false≢true e
role_unspent IsCell None n a p e = false≢true p
role_unspent IsCell (Some _) n a p e = false≢true p
role_unspent IsHub (Some (HubOf hub)) n a p e = false≢true e
role_unspent IsHub None n a p e = false≢true p
role_unspent IsHub (Some _) n a p e = false≢true p
role_unspent IsGroup (Some (Group error tasks empty)) n a p e = false≢true e
role_unspent IsGroup None n a p e = false≢true p
role_unspent IsGroup (Some _) n a p e = false≢true p
role_unspent IsGroupAlone (Some (Group error tasks empty)) n a p e = false≢true e
role_unspent IsGroupAlone None n a p e = false≢true p
role_unspent IsGroupAlone (Some _) n a p e = false≢true p
role_unspent IsCanceler (Some (Canceler wraps)) n a p e = false≢true e
role_unspent IsCanceler None n a p e = false≢true p
role_unspent IsCanceler (Some _) n a p e = false≢true p
role_unspent IsRequest (Some (RequestOf (Some node))) n a p e = false≢true e
role_unspent IsRequest (Some (RequestOf None)) n a p e = false≢true p
role_unspent IsRequest None n a p e = false≢true p
role_unspent IsRequest (Some _) n a p e = false≢true p
role_unspent IsDroppable (Some (Promise root)) n a p e = false≢true e
role_unspent IsDroppable (Some (HubOf hub)) n a p e = false≢true e
role_unspent IsDroppable (Some (Group error tasks empty)) n a p e = false≢true e
role_unspent IsDroppable (Some (Canceler wraps)) n a p e = false≢true e
role_unspent IsDroppable None n a p e = false≢true p
role_unspent IsDroppable (Some _) n a p e = false≢true p

role_some : (role : Role) (h : Option Held) → is_new role ≡ false → has_role role h ≡ true → is_some h ≡ true
role_some role (Some h) n p = refl
role_some IsNew None n p = absurd (false≢true (sym n))
role_some IsSource None n p = p
role_some IsCell None n p = p
role_some IsAsk None n p = p
role_some IsHub None n p = p
role_some IsGroup None n p = p
role_some IsGroupAlone None n p = p
role_some IsCanceler None n p = p
role_some IsRequest None n p = p
role_some IsDroppable None n p = p

role_taken : (role : Role) (h : Option Held) → is_ask role ≡ false → has_role role (found_taken h) ≡ has_role role h
role_taken role None a = refl
role_taken role (Some (Promise root)) a = refl
role_taken role (Some (CellOf cell)) a = refl
role_taken role (Some (HubOf hub)) a = refl
role_taken role (Some (Group error tasks empty)) a = refl
role_taken role (Some (Canceler wraps)) a = refl
role_taken role (Some (RequestOf request)) a = refl
role_taken IsAsk (Some (AskCell cell is_taken)) a = absurd (false≢true (sym a))
role_taken IsNew (Some (AskCell cell is_taken)) a = refl
role_taken IsSource (Some (AskCell cell is_taken)) a = refl
role_taken IsCell (Some (AskCell cell is_taken)) a = refl
role_taken IsHub (Some (AskCell cell is_taken)) a = refl
role_taken IsGroup (Some (AskCell cell is_taken)) a = refl
role_taken IsGroupAlone (Some (AskCell cell is_taken)) a = refl
role_taken IsCanceler (Some (AskCell cell is_taken)) a = refl
role_taken IsRequest (Some (AskCell cell is_taken)) a = refl
role_taken IsDroppable (Some (AskCell cell is_taken)) a = refl

-- each name of a command that passes is firm
or_split : (a b : Bool) → a || b ≡ false → (a ≡ false) × (b ≡ false)
or_split false b e = (refl, e)
or_split true b e = absurd (false≢true (sym e))

firm_one : (loose : ℕ → Bool) (w v : World) (u : Use) (rest : Bool) → is_new u.role && loose u.name || rest ≡ false → (is_ask u.role ≡ true → (loose u.name ≡ false) × (held_at u.name v.names ≡ held_at u.name w.names)) → (loose u.name ≡ true → is_spent (held_at u.name w.names) ≡ true) → has_role u.role (held_at u.name w.names) ≡ true → loose u.name ≡ false
firm_one loose w v u rest sp fair spent right = decide (is_new u.role) (is_ask u.role) (loose u.name) refl refl refl
  where
    decide : (a b l : Bool) → is_new u.role ≡ a → is_ask u.role ≡ b → loose u.name ≡ l → loose u.name ≡ false
    decide a b false e f g = g
    decide a true true e f g = (fair f).0
    decide true false true e f g = absurd (false≢true (sym (or_split (is_new u.role && loose u.name) rest sp).0 ∙ ap (λ c. c && loose u.name) e ∙ g))
    decide false false true e f g = absurd (role_unspent u.role (held_at u.name w.names) e f right (spent g))

firm_all : (loose : ℕ → Bool) (w v : World) (us : List Use) → list_any (λ (u : Use). is_new u.role && loose u.name) us ≡ false → ((c : ℕ) → loose c ≡ true → is_spent (held_at c w.names) ≡ true) → AllFair loose w v us → AllRight w us → AllFirm loose us
firm_all loose w v [] sp spent fair right = tt
firm_all loose w v (u ∷ us) sp spent fair right =
    let rest = list_any (λ (x : Use). is_new x.role && loose x.name) us in
    (firm_one loose w v u rest sp fair.0 (spent u.name) right.0, firm_all loose w v us (or_split (is_new u.role && loose u.name) rest sp).1 spent fair.1 right.1)

right_one : (loose : ℕ → Bool) (k : ℕ) (w v : World) (u : Use) → loose u.name ≡ false → (is_ask u.role ≡ true → (loose u.name ≡ false) × (held_at u.name v.names ≡ held_at u.name w.names)) → Near loose k w v → has_role u.role (held_at u.name w.names) ≡ true → has_role u.role (held_at u.name v.names) ≡ true
right_one loose k w v u f fair r p = decide (is_ask u.role) refl
  where
    decide : (b : Bool) → is_ask u.role ≡ b → has_role u.role (held_at u.name v.names) ≡ true
    decide true e = ap (has_role u.role) (fair e).1 ∙ p
    decide false e = sym (role_taken u.role (held_at u.name v.names) e) ∙ ap (has_role u.role) (held_alike loose k u.name w v f r) ∙ role_taken u.role (held_at u.name w.names) e ∙ p

right_all : (loose : ℕ → Bool) (k : ℕ) (w v : World) (us : List Use) → AllFirm loose us → AllFair loose w v us → Near loose k w v → AllRight w us → AllRight v us
right_all loose k w v [] f fair r p = tt
right_all loose k w v (u ∷ us) f fair r p = (right_one loose k w v u f.0 fair.0 r p.0, right_all loose k w v us f.1 fair.1 r p.1)

-- unknown names
known_one : (w v : World) (before : List Use) (u : Use) → is_unknown w before u ≡ false → has_role u.role (held_at u.name v.names) ≡ true → is_unknown v before u ≡ false
known_one w v before u e p = decide (is_new u.role) refl
  where
    second : (a b c : Bool) → not (not a || b) ≡ true → (b ≡ false)
    second true b c h = not_true b h
    second false b c h = absurd (false≢true h)

    parts : (a b : Bool) → not a || b ≡ false → (a ≡ true) × (b ≡ false)
    parts true b h = (refl, h)
    parts false b h = absurd (false≢true (sym h))

    decide : (b : Bool) → is_new u.role ≡ b → is_unknown v before u ≡ false
    decide true h = ap (λ (x : Bool). not x && (not (is_name u.name v.names) || (is_source u.role && used_before is_source u.name before))) h
    decide false h =
        let old : not (is_name u.name w.names) || (is_source u.role && used_before is_source u.name before) ≡ false = sym (ap (λ (x : Bool). not x && (not (is_name u.name w.names) || (is_source u.role && used_before is_source u.name before))) h) ∙ e in
        let again = (parts (is_name u.name w.names) (is_source u.role && used_before is_source u.name before) old).1 in
        let there = name_held u.name v.names ∙ role_some u.role (held_at u.name v.names) h p in
        ap (λ (x : Bool). not x && (not (is_name u.name v.names) || (is_source u.role && used_before is_source u.name before))) h ∙ ap (λ (x : Bool). not x || (is_source u.role && used_before is_source u.name before)) there ∙ again

known_all : (w v : World) (before us : List Use) → first_failing (is_unknown w) before us ≡ None → AllRight v us → first_failing (is_unknown v) before us ≡ None
known_all w v before [] e p = refl
known_all w v before (u ∷ us) e p =
    let q = found_none (is_unknown w before u) u.name (first_failing (is_unknown w) (before ++ u ∷ []) us) e in
    ap (λ (b : Bool). found_if b u.name (first_failing (is_unknown v) (before ++ u ∷ []) us)) (known_one w v before u q.0 p.0) ∙ known_all w v (before ++ u ∷ []) us q.1 p.1

-- names that are taken
alone_taken : (nodes : List Entry) (h : Option Held) → has_empty_cell nodes (found_taken h) ≡ has_empty_cell nodes h
alone_taken nodes (Some (Group error tasks (Some cell))) = refl
alone_taken nodes (Some (Group error tasks None)) = refl
alone_taken nodes None = refl
alone_taken nodes (Some _) = refl

pub name_alike : (loose : ℕ → Bool) (k c : ℕ) (w v : World) → loose c ≡ false → Near loose k w v → is_name c v.names ≡ is_name c w.names
name_alike loose k c w v f r = name_held c v.names ∙ sym (some_taken (held_at c v.names)) ∙ ap is_some (held_alike loose k c w v f r) ∙ some_taken (held_at c w.names) ∙ sym (name_held c w.names)

taken_one : (loose : ℕ → Bool) (k : ℕ) (w v : World) (before : List Use) (name : ℕ) (role : Role) → loose name ≡ false → Near loose k w v → is_taken_as v before name role ≡ is_taken_as w before name role
taken_one loose k w v before name IsNew f r = ap (λ (b : Bool). b || used_before is_new name before) (name_alike loose k name w v f r)
taken_one loose k w v before name IsGroupAlone f r =
    ap (λ (es : List Entry). has_empty_cell es (held_at name v.names)) (sym (read_alike loose k (λ u. u.nodes) w v (λ l u. refl) r))
    ∙ sym (alone_taken w.nodes (held_at name v.names)) ∙ ap (has_empty_cell w.nodes) (held_alike loose k name w v f r) ∙ alone_taken w.nodes (held_at name w.names)
taken_one loose k w v before name _ f r = refl

taken_all : (loose : ℕ → Bool) (k : ℕ) (w v : World) (before us : List Use) → AllFirm loose us → Near loose k w v → first_failing (is_taken w) before us ≡ None → first_failing (is_taken v) before us ≡ None
taken_all loose k w v before [] f r e = refl
taken_all loose k w v before (u ∷ us) f r e =
    let q = found_none (is_taken w before u) u.name (first_failing (is_taken w) (before ++ u ∷ []) us) e in
    ap (λ (b : Bool). found_if b u.name (first_failing (is_taken v) (before ++ u ∷ []) us)) (taken_one loose k w v before u.name u.role f.0 r ∙ q.0) ∙ taken_all loose k w v (before ++ u ∷ []) us f.1 r q.1

-- what would go
wraps_taken : (h : Option Held) → wraps_of (found_taken h) ≡ wraps_of h
wraps_taken (Some (Canceler wraps)) = refl
wraps_taken None = refl
wraps_taken (Some _) = refl

settles_alike : (loose : ℕ → Bool) (k n c : ℕ) (w v : World) → loose c ≡ false → Near loose k w v → settles_wrap n c v ≡ settles_wrap n c w
settles_alike loose k n c w v f r =
    ap (λ (o : Option Form). is_in n (wraps_of (held_at c v.names)) && is_unsettled_wrap o) (sym (read_alike loose k (λ u. form_at n u.nodes) w v (λ l u. refl) r))
    ∙ ap (λ (ws : List ℕ). is_in n ws && is_unsettled_wrap (form_at n w.nodes)) (sym (wraps_taken (held_at c v.names)) ∙ ap wraps_of (held_alike loose k c w v f r) ∙ wraps_taken (held_at c w.names))

settle_alike : (loose : ℕ → Bool) (k n : ℕ) (c : Command) (w v : World) → AllFirm loose (uses_of c) → Near loose k w v → would_settle n c v ≡ would_settle n c w
settle_alike loose k n (Cancel canceler) w v f r = settles_alike loose k n canceler w v f.0 r
settle_alike loose k n (Drop name) w v f r = settles_alike loose k n name w v f.0 r
settle_alike loose k n _ w v f r = refl

free_alike : (loose : ℕ → Bool) (k n : ℕ) (c : Command) (s t : State) → AllFirm loose (uses_of c) → Same loose (names_of c + k) s t → would_free n c t ≡ would_free n c s
free_alike loose k n c s t f r =
    let e = effect_same loose (Holding []) c k f s t r in
    ap (λ (xs : List Item). list_any (is_free_of n) (drop (length xs) (effect (Holding []) c t).past)) r.past ∙ ap (λ (xs : List Item). list_any (is_free_of n) (drop (length s.past) xs)) e.past

busy_alike : (loose : ℕ → Bool) (k : ℕ) (c : Command) (s t : State) → AllFirm loose (uses_of c) → Same loose (names_of c + k) s t → is_busy c t ≡ is_busy c s
busy_alike loose k c s t f r = ap (λ (o : Option ℕ). is_busy_at o c t) (sym (read_alike loose (names_of c + k) (λ u. u.firing) s.world t.world (λ l u. refl) r.world)) ∙ at_one s.world.firing
  where
    at_one : (o : Option ℕ) → is_busy_at o c t ≡ is_busy_at o c s
    at_one None = refl
    at_one (Some n) = ap (λ (b : Bool). b || would_free n c t) (settle_alike loose (names_of c + k) n c s.world t.world f r.world) ∙ ap (λ (b : Bool). would_settle n c s.world || b) (free_alike loose k n c s t f r)

-- room
before_alike : (loose : ℕ → Bool) (k count source : ℕ) (w v : World) → loose source ≡ false → Near loose k w v → before_source count source v ≡ before_source count source w
before_alike loose k count source w v f r = ap (λ n. let x : Row = record { before = Some n; count = count } in x) (sym (node_alike loose k source w v f r))

all_before : (loose : ℕ → Bool) (k : ℕ) (sources : List ℕ) (w v : World) → AllFirm loose (used_as IsSource sources) → Near loose k w v → map (λ source. before_source 1 source v) sources ≡ map (λ source. before_source 1 source w) sources
all_before loose k [] w v f r = refl
all_before loose k (source ∷ more) w v f r = ap (λ (x : Row). x ∷ map (λ source. before_source 1 source v) more) (before_alike loose k 1 source w v f.0 r) ∙ ap (λ xs. before_source 1 source w ∷ xs) (all_before loose k more w v f.1 r)

rows_alike : (loose : ℕ → Bool) (k : ℕ) (c : Command) (w v : World) → AllFirm loose (uses_of c) → Near loose k w v → rows c v ≡ rows c w
rows_alike loose k (Then name source x e) w v f r = ap (λ (y : Row). y ∷ []) (before_alike loose k 1 source w v f.1.0 r)
rows_alike loose k (Chain name source x e) w v f r = ap (λ (y : Row). y ∷ []) (before_alike loose k 2 source w v f.1.0 r)
rows_alike loose k (Eager name source) w v f r = ap (λ (y : Row). y ∷ []) (before_alike loose k 1 source w v f.1.0 r)
rows_alike loose k (Race name left right) w v f r = ap (λ (y : Row). y ∷ before_source 1 right v ∷ anew 1 ∷ []) (before_alike loose k 1 left w v f.1.0 r) ∙ ap (λ (y : Row). before_source 1 left w ∷ y ∷ anew 1 ∷ []) (before_alike loose k 1 right w v f.1.1.0 r)
rows_alike loose k (All name sources) w v f r = ap (λ (ys : List Row). ys ++ anew 1 ∷ []) (all_before loose k sources w v f.1 r)
rows_alike loose k (Fast name sources) w v f r = ap (λ (ys : List Row). ys ++ anew 1 ∷ []) (all_before loose k sources w v f.1 r)
rows_alike loose k (Add group source) w v f r = ap (λ (y : Row). y ∷ []) (before_alike loose k 1 source w v f.1.0 r)
rows_alike loose k (Wrap name c source) w v f r = ap (λ (y : Row). y ∷ []) (before_alike loose k 1 source w v f.1.1.0 r)
rows_alike loose k (Detach source) w v f r = ap (λ (y : Row). y ∷ []) (before_alike loose k 1 source w v f.0 r)
rows_alike loose k _ w v f r = refl

named_few : (c : ℕ) (held : Held) (w : World) → length (named c held w).names ≤ suc (length w.names)
named_few c held w =
    let a = length_with (record { name = c; held = held }) (without_name c w.names) in
    let b = length_without c w.names in
    omega (arith, a, b)

by_few : (role : Role) (name : ℕ) (w : World) → length (named_by role name w).names ≤ suc (length w.names)
by_few IsNew name w = named_few name (CellOf 0) w
by_few IsSource name w = let b = length_without name w.names in omega (arith, b)
by_few _ name w = omega arith

each_few : (us : List Use) (w : World) → length (each_named us w).names ≤ length us + length w.names
each_few [] w = omega arith
each_few (u ∷ us) w =
    let a = each_few us (named_by u.role u.name w) in
    let b = by_few u.role u.name w in
    omega (arith, a, b)

awaited_few : (o : Option Awaited) (w : World) → length (with_awaited o w).names ≤ suc (length w.names)
awaited_few None w = omega arith
awaited_few (Some a) w = named_few a.name (Promise a.root) w

names_fit : (c : Command) (k : ℕ) (w : World) → suc (length w.names + (names_of c + k)) ≤ w.limits.names → nat_lt w.limits.names (names_after c w) ≡ false
names_fit c k w h =
    let a = awaited_few w.awaited (each_named (uses_of c) w) in
    let b = each_few (uses_of c) w in
    let l : names_after c w ≤ w.limits.names = omega (arith, a, b, h) in
    not_less w.limits.names (names_after c w) l
  where
    not_less : (m n : ℕ) → n ≤ m → nat_lt m n ≡ false
    not_less m n l = grind (arith, nat_tests)

full_alike : (loose : ℕ → Bool) (k : ℕ) (setting : Setting) (c : Command) (w v : World) → AllFirm loose (uses_of c) → Near loose (names_of c + k) w v → is_full setting c w ≡ false → is_full setting c v ≡ false
full_alike loose k setting c w v f r e =
    let l = read_alike loose (names_of c + k) (λ u. u.limits) w v (λ l u. refl) r in
    let x = read_alike loose (names_of c + k) (λ u. u.spots) w v (λ l u. refl) r in
    let n = read_alike loose (names_of c + k) (λ u. u.next) w v (λ l u. refl) r in
    let q = rows_alike loose (names_of c + k) c w v f r in
    ap (λ (b : Bool). not (setting.fits v.limits.slots v.spots (rows c v)) || b || (not (is_none (rows c v)) && nat_lt (2 ^ 63) v.next)) (names_fit c k v r.right)
    ∙ ap (λ (y : Rattle.kj_base.specs.declared.numbers.Limits.Limits). not (setting.fits y.slots v.spots (rows c v)) || false || (not (is_none (rows c v)) && nat_lt (2 ^ 63) v.next)) (sym l)
    ∙ ap (λ (ys : List Rattle.kj_model.specs.World.Spot). not (setting.fits w.limits.slots ys (rows c v)) || false || (not (is_none (rows c v)) && nat_lt (2 ^ 63) v.next)) (sym x)
    ∙ ap (λ (m : ℕ). not (setting.fits w.limits.slots w.spots (rows c v)) || false || (not (is_none (rows c v)) && nat_lt (2 ^ 63) m)) (sym n)
    ∙ ap (λ (ys : List Row). not (setting.fits w.limits.slots w.spots ys) || false || (not (is_none ys) && nat_lt (2 ^ 63) w.next)) q
    ∙ ap (λ (b : Bool). not (setting.fits w.limits.slots w.spots (rows c w)) || b || (not (is_none (rows c w)) && nat_lt (2 ^ 63) w.next)) (sym (names_fit c k w r.left))
    ∙ e

-- a command that passes in one passes in the other
firm_of : (loose : ℕ → Bool) (setting : Setting) (inside : Bool) (c : Command) (k : ℕ) (s t : State) → spares loose c ≡ true → AllFair loose s.world t.world (uses_of c) → Same loose k s t → Passes setting inside c s → AllFirm loose (uses_of c)
firm_of loose setting inside c k s t sp fair r p = firm_all loose s.world t.world (uses_of c) (not_true (list_any (λ (u : Use). is_new u.role && loose u.name) (uses_of c)) sp) (λ n e. held_spent loose n s.world.names e r.world.alike.left.spent) fair (right_of s.world [] (uses_of c) p.right)

passes_too : (loose : ℕ → Bool) (setting : Setting) (inside : Bool) (c : Command) (k : ℕ) (s t : State) → spares loose c ≡ true → AllFair loose s.world t.world (uses_of c) → Same loose (names_of c + k) s t → Passes setting inside c s → Passes setting inside c t
passes_too loose setting inside c k s t sp fair r p =
    let f = firm_of loose setting inside c (names_of c + k) s t sp fair r p in
    let right = right_all loose (names_of c + k) s.world t.world (uses_of c) f fair r.world (right_of s.world [] (uses_of c) p.right) in
    record {
      runs = sym (read_alike loose (names_of c + k) (λ u. u.stopped) s.world t.world (λ l u. refl) r.world) ∙ p.runs;
      allowed = p.allowed;
      known = known_all s.world t.world [] (uses_of c) p.known right;
      right = right_none t.world [] (uses_of c) right;
      free = taken_all loose (names_of c + k) s.world t.world [] (uses_of c) f r.world p.free;
      idle = busy_alike loose k c s t f r ∙ p.idle;
      fits = full_alike loose k setting c s.world t.world f r.world p.fits;
    }

fair_back : (loose : ℕ → Bool) (w v : World) (us : List Use) → AllFair loose w v us → AllFair loose v w us
fair_back loose w v [] f = tt
fair_back loose w v (u ∷ us) f = (λ e. let p = f.0 e in (p.0, sym p.1), fair_back loose w v us f.1)

-- a command: alike afterwards, and refused in both or in neither
pub apply_same : (loose : ℕ → Bool) (setting : Setting) (inside : Bool) (c : Command) (k : ℕ) (s t : State) → spares loose c ≡ true → AllFair loose s.world t.world (uses_of c) → Same loose (names_of c + k) s t → Same loose k (apply setting inside c s).0 (apply setting inside c t).0 × (is_some (apply setting inside c s).1 ≡ is_some (apply setting inside c t).1)
apply_same loose setting inside c k s t sp fair r = decide (refusal setting inside c s) (refusal setting inside c t) refl refl
  where
    guard : usual t.world ≡ usual s.world
    guard = ap (λ (o : Option ℕ). Holding (option_to_list o)) (sym (read_alike loose (names_of c + k) (λ u. u.firing) s.world t.world (λ l u. refl) r.world))

    both : refusal setting inside c s ≡ None → Same loose k (effect (usual s.world) c s) (effect (usual t.world) c t)
    both e = subst (λ g. Same loose k (effect (usual s.world) c s) (effect g c t)) (sym guard) (effect_same loose (usual s.world) c k (firm_of loose setting inside c (names_of c + k) s t sp fair r (passes_of setting inside c s e)) s t r)

    less : Same loose k s t
    less = less_same loose (names_of c + k) k s t (omega arith) r

    decide : (o p : Option Refused) → refusal setting inside c s ≡ o → refusal setting inside c t ≡ p → Same loose k (applied o c s).0 (applied p c t).0 × (is_some (applied o c s).1 ≡ is_some (applied p c t).1)
    decide None None e h = (both e, refl)
    decide (Some a) (Some b) e h = (less, refl)
    decide None (Some b) e h = absurd (some_none b (sym h ∙ none_of setting inside c t (passes_too loose setting inside c k s t sp fair r (passes_of setting inside c s e))))
    decide (Some a) None e h = absurd (some_none a (sym e ∙ none_of setting inside c s (passes_too loose setting inside c k t s sp (fair_back loose s.world t.world (uses_of c) fair) (same_back loose (names_of c + k) s t r) (passes_of setting inside c t h))))
