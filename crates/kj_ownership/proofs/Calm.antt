-- Where a command isn't busy, what it frees is off the path of the node whose event fires.
use Rattle.std.proofs.Common.{◌≡◌, inl, inr, ℕ, ◌+◌, ◌≤◌, List, [], ◌∷◌, ◌++◌, length, drop, Bool, true, false, Option, Some, arith, refl, sym, ap, ◌∙◌, subst, ◌||◌, ◌==◌}
use Rattle.std.specs.Prelude.{option_to_list, map}
use Rattle.std.specs.List.{list_any}
use Rattle.std.proofs.lemmas.Bool.{false≢true, or_parts}
use Rattle.kj_base.specs.Record.{Item, Free}
use Rattle.kj_base.specs.Commands.{Command}
use Rattle.kj_model.specs.Nodes.{Entry, form_at, is_in}
use Rattle.kj_model.specs.World.{World, State, depth_of}
use Rattle.kj_model.specs.Grown.{Grows}
use Rattle.kj_model.specs.Free.{Holding, free, each_freed, usual, is_guarded}
use Rattle.kj_model.specs.Effects.{effect}
use Rattle.kj_model.specs.Apply.{is_free_of, would_free, would_settle, is_busy_at, is_busy}
use Rattle.kj_model.specs.Falling.{falling, without_all}
use Rattle.kj_model.specs.Owned.{tree_roots, awaited_roots}
use Rattle.kj_model.specs.Framed.{times, FreedBy}
use Rattle.kj_ownership.specs.Owners.{is_live, owns, is_hub_form}
use Rattle.kj_ownership.specs.Standing.{one_if, owned_times, Climbs, Standing}
use Rattle.kj_ownership.specs.Stems.{Begins, Frames}
use Rattle.kj_ownership.specs.Shapes.{Shaped}
use Rattle.kj_model.proofs.Growing.{each_freed_grows, free_grows}
use Rattle.kj_model.proofs.Members.{Within, in_either, in_left, in_right, in_one, in_self, in_none}
use Rattle.kj_model.proofs.Once.{both_ways, false_by}
use Rattle.kj_model.proofs.Counts.{filter_all}
use Rattle.kj_model.proofs.Falling.{node_frees}
use Rattle.kj_ownership.proofs.Flat.{Goes, node_goes}
use Rattle.kj_ownership.proofs.Stays.{places_one, loose_unowned, unowned, climbs_stay, live_after, in_times}
use Rattle.kj_ownership.proofs.Climb.{none_open, climb_live, kept_holds}
use Rattle.kj_ownership.proofs.Commands.{Tended, loose_comes, fuel_for, free_loose}
use Rattle.kj_ownership.proofs.Frames.{framed_tended, within_more, awaited_count}
use Rattle.kj_ownership.proofs.Busy.{last_of, goes_down}
use Rattle.kj_ownership.proofs.Evaluates.{frame_live}
use Rattle.kj_ownership.proofs.Walks.{Walks, AreOff, climb_one, root_above, walks_free, walks_both}

-- the free of this node is told from one state to another
pub record Tells (f : ℕ) (s t : State) : Type 0 where
  pub more : List Item
  pub told : t.past ≡ s.past ++ more
  pub has : list_any (is_free_of f) more ≡ true

any_app : (p : Item → Bool) (xs ys : List Item) → list_any p (xs ++ ys) ≡ (list_any p xs || list_any p ys)
any_app p [] ys = refl
any_app p (x ∷ xs) ys = ap (λ b. p x || b) (any_app p xs ys) ∙ assoc (p x) (list_any p xs) (list_any p ys)
  where
    assoc : (a b c : Bool) → (a || (b || c)) ≡ ((a || b) || c)
    assoc true b c = refl
    assoc false b c = refl

append_items : (xs ys zs : List Item) → (xs ++ ys) ++ zs ≡ xs ++ (ys ++ zs)
append_items [] ys zs = refl
append_items (x ∷ xs) ys zs = ap (λ rest. x ∷ rest) (append_items xs ys zs)

or_left : (a b : Bool) → a ≡ true → (a || b) ≡ true
or_left true b e = refl
or_left false b e = absurd (false≢true e)

or_right : (a b : Bool) → b ≡ true → (a || b) ≡ true
or_right true b e = refl
or_right false b e = e

pub tells_later : (f : ℕ) (s t u : State) → Tells f s t → Grows t u → Tells f s u
tells_later f s t u a g = record {
  more = a.more ++ g.0;
  told = g.1 ∙ ap (λ xs. xs ++ g.0) a.told ∙ append_items s.past a.more g.0;
  has = any_app (is_free_of f) a.more g.0 ∙ or_left (list_any (is_free_of f) a.more) (list_any (is_free_of f) g.0) a.has;
}

pub tells_before : (f : ℕ) (s t u : State) → Grows s t → Tells f t u → Tells f s u
tells_before f s t u g a = record {
  more = g.0 ++ a.more;
  told = a.told ∙ ap (λ xs. xs ++ a.more) g.1 ∙ append_items s.past g.0 a.more;
  has = any_app (is_free_of f) g.0 a.more ∙ or_right (list_any (is_free_of f) g.0) (list_any (is_free_of f) a.more) a.has;
}

dropped_more : (xs ys : List Item) → drop (length xs) (xs ++ ys) ≡ ys
dropped_more [] ys = refl
dropped_more (x ∷ xs) ys = dropped_more xs ys

pub tells_dropped : (f : ℕ) (s t : State) → Tells f s t → list_any (is_free_of f) (drop (length s.past) t.past) ≡ true
tells_dropped f s t a = ap (λ xs. list_any (is_free_of f) (drop (length s.past) xs)) a.told ∙ ap (list_any (is_free_of f)) (dropped_more s.past a.more) ∙ a.has

frees_any : (f : ℕ) (ns : List ℕ) → list_any (is_free_of f) (map Free ns) ≡ is_in f ns
frees_any f [] = refl
frees_any f (n ∷ ns) = ap (λ b. (n == f) || b) (frees_any f ns)

pub tells_freed : (f : ℕ) (ns : List ℕ) (s t : State) → FreedBy ns s t → is_in f ns ≡ true → Tells f s t
tells_freed f ns s t fr i = record { more = map Free ns; told = fr.told; has = frees_any f ns ∙ i }

-- not busy: the node that fires wouldn't be freed
pub calm_free : (c : Command) (s : State) (f : ℕ) → is_busy c s ≡ false → s.world.firing ≡ Some f → Tells f s (effect (Holding []) c s) → ⊥
calm_free c s f calm fires t =
    let at_f : is_busy_at (Some f) c s ≡ false = subst (λ (o : Option ℕ). is_busy_at o c s ≡ false) fires calm in
    both_ways (would_free f c s) (tells_dropped f s (effect (Holding []) c s) t) (or_parts (would_settle f c s.world) (would_free f c s) at_f).1

pub calm_settle : (c : Command) (s : State) (f : ℕ) → is_busy c s ≡ false → s.world.firing ≡ Some f → would_settle f c s.world ≡ false
calm_settle c s f calm fires = (or_parts (would_settle f c s.world) (would_free f c s) (subst (λ (o : Option ℕ). is_busy_at o c s ≡ false) fires calm)).0

-- where a root goes, what stands under it is told
pub roots_tell : (ns loose out : List ℕ) (s : State) (f r : ℕ) (ys : List ℕ) → Standing (ns ++ loose) out [] s → is_live f s.world.nodes ≡ true → Climbs s.world.nodes f ys → is_in r ns ≡ true → is_in r (f ∷ ys) ≡ true → Tells f s (each_freed (free (Holding [])) ns s)
roots_tell [] loose out s f r ys st live c i j = absurd (in_none r i)
roots_tell (x ∷ xs) loose out s f r ys st live c i j = decide (is_in f ns) refl (λ t fst flive fc fi. roots_tell xs loose out t f r ys fst flive fc fi j)
  where
    d : ℕ
    d = depth_of s.world

    ns : List ℕ
    ns = falling (Holding []) s.world (depth_of s.world) [] [] x

    fr : FreedBy (falling (Holding []) s.world (depth_of s.world) [] [] x) s (free (Holding []) x s)
    fr = node_frees (Holding []) (depth_of s.world) x s

    goes : Goes s.world [] [] (x ∷ []) (falling (Holding []) s.world (depth_of s.world) [] [] x)
    goes = node_goes (Holding []) s.world (depth_of s.world) (places_one (x ∷ (xs ++ loose)) out s.world st.placed st.hubs) [] [] [] x (none_open (Holding []) s.world) (loose_comes (Holding []) (x ∷ (xs ++ loose)) out [] [] s x st (in_self x (xs ++ loose)) refl) (let l = fuel_for s st.room in omega (arith, l))

    decide : (b : Bool) → is_in f (falling (Holding []) s.world (depth_of s.world) [] [] x) ≡ b
        → ((t : State) → Standing (xs ++ loose) out [] t → is_live f t.world.nodes ≡ true → Climbs t.world.nodes f ys → is_in r xs ≡ true → Tells f t (each_freed (free (Holding [])) xs t))
        → Tells f s (each_freed (free (Holding [])) xs (free (Holding []) x s))
    decide true e ih = tells_later f s (free (Holding []) x s) (each_freed (free (Holding [])) xs (free (Holding []) x s)) (tells_freed f (falling (Holding []) s.world (depth_of s.world) [] [] x) s (free (Holding []) x s) fr e) (each_freed_grows (free (Holding [])) (free_grows (Holding [])) xs (free (Holding []) x s))
    decide false e ih =
        let t = free (Holding []) x s in
        let in_xs : is_in r xs ≡ true = elim (in_either r (x ∷ []) xs i) [
          | inl a ↦ absurd (both_ways (is_in f (falling (Holding []) s.world (depth_of s.world) [] [] x)) (goes_down s.world [] (x ∷ []) (falling (Holding []) s.world (depth_of s.world) [] [] x) f r ys goes live c j (goes.took r (subst (λ (y : ℕ). is_in y (x ∷ []) ≡ true) (in_one r x a) (in_self x [])) (climb_live s.world f r ys live c j))) e)
          | inr b ↦ b
        ] in
        tells_before f s t (each_freed (free (Holding [])) xs t) (map Free (falling (Holding []) s.world (depth_of s.world) [] [] x), fr.told)
        (ih t (free_loose (Holding []) x (xs ++ loose) out s st) (live_after (falling (Holding []) s.world (depth_of s.world) [] [] x) s t f fr e live) (climbs_stay (falling (Holding []) s.world (depth_of s.world) [] [] x) (x ∷ []) [] s t f ys fr goes e live c) in_xs)

-- an awaited root isn't one that stands nowhere
two_places : (loose out lone : List ℕ) (s : State) (b r : ℕ) → Standing loose out lone s → is_live b s.world.nodes ≡ true → is_in b (awaited_roots s.world.awaited) ≡ true → is_in r loose ≡ true → r ≡ b → ⊥
two_places loose out lone s b r st live i j same =
    let a = awaited_count s b i in
    let one = st.placed.once b live in
    let here : 1 ≤ times b loose = subst (λ (y : ℕ). 1 ≤ times y loose) same (in_times r loose j) in
    clash (times b loose) (times b (tree_roots s.world)) (one_if (is_hub_form (form_at b s.world.nodes))) (owned_times b s.world.nodes) one here a
  where
    clash : (a b c d : ℕ) → a + (b + (c + d)) ≡ 1 → 1 ≤ a → 1 ≤ b → ⊥
    clash a b c d e g h = omega (arith, e, g, h)

-- two nodes on a climb that nobody owns are one
tops_same : (w : World) (x r b : ℕ) (ys : List ℕ) → Climbs w.nodes x ys → ((q : ℕ) → owns q r w.nodes ≡ false) → ((q : ℕ) → owns q b w.nodes ≡ false) → is_in r (x ∷ ys) ≡ true → is_in b (x ∷ ys) ≡ true → r ≡ b
tops_same w x r b [] c top_r top_b i j = sym (in_one r x i) ∙ in_one b x j
tops_same w x r b (y ∷ ys) c top_r top_b i j = elim (in_either r (x ∷ []) (y ∷ ys) i) [
  | inl a ↦ absurd (both_ways (owns y x w.nodes) c.0 (subst (λ (z : ℕ). owns y z w.nodes ≡ false) (sym (in_one r x a)) (top_r y)))
  | inr d ↦ elim (in_either b (x ∷ []) (y ∷ ys) j) [
    | inl a ↦ absurd (both_ways (owns y x w.nodes) c.0 (subst (λ (z : ℕ). owns y z w.nodes ≡ false) (sym (in_one b x a)) (top_b y)))
    | inr e ↦ tops_same w y r b ys c.1 top_r top_b d e
  ]
]

-- roots that stand nowhere are off the path, where freeing them wouldn't free what fires
pub roots_off : (ns loose : List ℕ) (s : State) (n : ℕ) (fs : List ℕ) → Standing (ns ++ loose) [] [] s → Frames s.world n fs → ((f : ℕ) → s.world.firing ≡ Some f → Tells f s (each_freed (free (Holding [])) ns s) → ⊥) → AreOff ns n s
roots_off ns loose s n fs st fr calm r i r_live ys c = false_by (is_in r (n ∷ ys)) (λ j. by_begin (last_of s.world n fs fr) j)
  where
    both : (t : Tended (option_to_list s.world.firing) s n) × Within fs t.above
    both = framed_tended [] [] (ns ++ loose) s n fs st fr

    live : is_live n s.world.nodes ≡ true
    live = frame_live s.world n fs fr

    top : (q : ℕ) → owns q r s.world.nodes ≡ false
    top q = loose_unowned (ns ++ loose) s.world r q st.placed r_live (in_left r ns loose i)

    on : (b : ℕ) → is_in b (n ∷ fs) ≡ true → is_in b (n ∷ ys) ≡ true
    on b k = climb_one (ns ++ loose) s.world n b both.0.above ys st.placed live both.0.climbs c (within_more n b fs both.0.above both.1 k)

    by_begin : (b : ℕ) × (is_in b (n ∷ fs) ≡ true) × Begins s.world b → is_in r (n ∷ ys) ≡ true → ⊥
    by_begin (b, k, inl g) j =
        let up = root_above s.world n r b ys c top j (on b k) in
        calm b g.0 (roots_tell ns loose [] s b r up.0 st g.1 up.1 i up.2)
    by_begin (b, k, inr g) j =
        let a = awaited_count s b g.2 in
        let b_top : (q : ℕ) → owns q b s.world.nodes ≡ false = λ q. unowned (ns ++ loose) s.world b q st.placed g.1 (omega (arith, a)) in
        two_places (ns ++ loose) [] [] s b r st g.1 g.2 (in_left r ns loose i) (tops_same s.world n r b ys c top b_top j (on b k))

-- such roots are freed
pub walks_each : (ns loose : List ℕ) (s : State) (n : ℕ) (fs : List ℕ) (o : Option ℕ) → s.world.firing ≡ o → Standing (ns ++ loose) [] [] s → Shaped s.world → Frames s.world n fs → AreOff ns n s → Walks loose [] s (each_freed (free (Holding (option_to_list o))) ns s) n fs
walks_each [] loose s n fs o fires st sh f off = record { went = record { standing = st; shaped = sh; same = record { firing = refl; awaited = refl; left_over = refl } }; frames = f; owner = λ b q g e. refl; forms = λ m i. refl }
walks_each (x ∷ xs) loose s n fs o fires st sh f off =
    let a = walks_free x (xs ++ loose) s n fs st sh f (λ r i. off r (in_left r (x ∷ []) xs i)) in
    let t = free (usual s.world) x s in
    let b = walks_each xs loose t n fs o (a.0.went.same.firing ∙ fires) a.0.went.standing a.0.went.shaped a.0.frames (λ r i. a.1 r (λ q k. subst (λ (y : ℕ). is_live y s.world.nodes ≡ true → (ys : List ℕ) → Climbs s.world.nodes n ys → is_in y (n ∷ ys) ≡ false) (in_one q r k) (off r (in_right r (x ∷ []) xs i))) r (in_self r [])) in
    subst (λ (p : Option ℕ). Walks loose [] s (each_freed (free (Holding (option_to_list o))) xs (free (Holding (option_to_list p)) x s)) n fs) fires
    (walks_both (xs ++ loose) [] loose [] s t (each_freed (free (Holding (option_to_list o))) xs t) n fs a.0 b)

-- a hub that falls for want of references is off the path
whole_guarded : (gs : List ℕ) (h : ℕ) (w : World) → is_guarded (Holding gs) h (without_all [] w) ≡ is_guarded (Holding gs) h w
whole_guarded gs h w = ap (λ (es : List Entry). is_guarded (Holding gs) h (record w { nodes = es })) (filter_all (λ (e : Entry). e.number) w.nodes)

pub hub_off : (out : List ℕ) (loose : List ℕ) (s : State) (n h : ℕ) (fs : List ℕ) → Standing loose out [] s → Frames s.world n fs → is_hub_form (form_at h s.world.nodes) ≡ true → is_guarded (usual s.world) h s.world ≡ false → (ys : List ℕ) → Climbs s.world.nodes n ys → is_in h (n ∷ ys) ≡ false
hub_off out loose s n h fs st fr hub free_hub ys c = false_by (is_in h (n ∷ ys)) (λ i.
    let both = framed_tended out [] loose s n fs st fr in
    let t = both.0 in
    let gs = option_to_list s.world.firing in
    let on = climb_one loose s.world n h ys t.above st.placed t.live c t.climbs i in
    let k = kept_holds loose out [] gs (n ∷ t.above) s h st (t.hubs h on hub) (λ m j. climb_live s.world n m t.above t.live t.climbs j) [] (λ m j. absurd (in_none m j)) in
    both_ways (is_guarded (usual s.world) h s.world) (sym (whole_guarded gs h s.world) ∙ k) free_hub)
