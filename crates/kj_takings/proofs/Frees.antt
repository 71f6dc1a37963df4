-- A free keeps states alike.
use Rattle.std.proofs.Common.{◌≡◌, ◌∙◌, refl, sym, subst, zero, suc, ℕ, List, [], ◌∷◌, ◌++◌, Bool, true, false, Option, None, Some, arith}
use Rattle.std.specs.Prelude.{is_some}
use Rattle.std.proofs.lemmas.Bool.{false≢true}
use Rattle.kj_model.specs.Nodes.{Form, Cell, Branch, Wrap, Hub, form_at, parts_of, dropped}
use Rattle.kj_model.specs.World.{World, State, Named, Held, Canceler, depth_of}
use Rattle.kj_model.specs.Changes.{silent, gone}
use Rattle.kj_model.specs.Free.{Guard, Holding, Every, is_guarded, free_unless, free_unreferenced, reference_gone, without_branch_in, without_branch, without_wrap_in, without_wrap, ask_of, abandoned_as, unlinked, each_freed, free_form, free_to, free}
use Rattle.kj_ownership.specs.Kept.{is_spent}
use Rattle.kj_takings.specs.Alike.{Lists, with_lists}
use Rattle.kj_takings.proofs.Names.{found_taken}
use Rattle.kj_takings.proofs.Worlds.{Near, Keeps, lists_near, put_near, named_near, by_held, seen_as, Both}
use Rattle.kj_takings.proofs.Calm.{Tame, tame_none, tame_then, tame_read, tame_world, tame_gone}

-- a change that goes by the form of a node
pub by_form : (loose : ℕ → Bool) (n : ℕ) (op : Option Form → State → State) → ((o : Option Form) → Tame loose (op o)) → Tame loose (λ s. op (form_at n s.world.nodes) s)
by_form loose n op h = tame_read loose (λ w. form_at n w.nodes) op (λ l u. refl) h

pub by_form_near : (loose : ℕ → Bool) (n : ℕ) (op : Option Form → World → World) → ((o : Option Form) → Keeps loose (op o)) → Keeps loose (λ w. op (form_at n w.nodes) w)
by_form_near loose n op h k w v r = seen_as loose (λ u. op (form_at n u.nodes) u) k k w v r (λ l s. h (form_at n w.nodes) k w (with_lists l w) s)

-- all of a free
abbrev pub AllTame : (ℕ → Bool) → (ℕ → State → State) → Type 0
AllTame loose f = (n : ℕ) → Tame loose (f n)

pub each_tame : (loose : ℕ → Bool) (f : ℕ → State → State) → AllTame loose f → (ns : List ℕ) → Tame loose (each_freed f ns)
each_tame loose f h [] = tame_none loose
each_tame loose f h (n ∷ ns) = tame_then loose (f n) (each_freed f ns) (h n) (each_tame loose f h ns)

unless_tame : (loose : ℕ → Bool) (b : Bool) (f : ℕ → State → State) (hub : ℕ) → AllTame loose f → Tame loose (free_unless b f hub)
unless_tame loose true f hub h = tame_none loose
unless_tame loose false f hub h = h hub

guarded_same : (guard : Guard) (hub : ℕ) (l : Lists) (w : World) → is_guarded guard hub (with_lists l w) ≡ is_guarded guard hub w
guarded_same (Holding nodes) hub l w = refl
guarded_same Every hub l w = refl

unreferenced_tame : (loose : ℕ → Bool) (guard : Guard) (f : ℕ → State → State) (hub : ℕ) (o : Option Form) → AllTame loose f → Tame loose (free_unreferenced guard f hub o)
unreferenced_tame loose guard f hub (Some (Hub content false [])) h = tame_read loose (is_guarded guard hub) (λ b. free_unless b f hub) (guarded_same guard hub) (λ b. unless_tame loose b f hub h)
unreferenced_tame loose guard f hub (Some (Hub content false (b ∷ bs))) h = tame_none loose
unreferenced_tame loose guard f hub (Some (Hub content true branches)) h = tame_none loose
unreferenced_tame loose guard f hub None h = tame_none loose
unreferenced_tame loose guard f hub (Some _) h = tame_none loose

pub reference_tame : (loose : ℕ → Bool) (guard : Guard) (f : ℕ → State → State) → AllTame loose f → AllTame loose (reference_gone guard f)
reference_tame loose guard f h hub = by_form loose hub (free_unreferenced guard f hub) (λ o. unreferenced_tame loose guard f hub o h)

-- references of a node
branch_case : (loose : ℕ → Bool) (n hub : ℕ) (o : Option Form) → Keeps loose (without_branch_in n hub o)
branch_case loose n hub (Some (Hub content is_named branches)) = put_near loose hub (Hub content is_named (dropped n branches))
branch_case loose n hub None = λ k w v r. r
branch_case loose n hub (Some _) = λ k w v r. r

branch_near : (loose : ℕ → Bool) (n hub : ℕ) → Keeps loose (without_branch n hub)
branch_near loose n hub = by_form_near loose hub (without_branch_in n hub) (branch_case loose n hub)

wrap_untold : (n c : ℕ) (h : Option Held) (w : World) → without_wrap_in n c (found_taken h) w ≡ without_wrap_in n c h w
wrap_untold n c (Some (Canceler wraps)) w = refl
wrap_untold n c None w = refl
wrap_untold n c (Some _) w = refl

wrap_spent : (n c : ℕ) (h : Option Held) (w : World) → is_spent h ≡ true → without_wrap_in n c h w ≡ w
wrap_spent n c (Some (Canceler wraps)) w e = absurd (false≢true e)
wrap_spent n c None w e = refl
wrap_spent n c (Some _) w e = refl

wrap_case : (loose : ℕ → Bool) (n c k : ℕ) (w v : World) (h : Option Held) → (is_some h ≡ true → Both c w v) → loose c ≡ false → Near loose k w v → Near loose k (without_wrap_in n c h w) (without_wrap_in n c h v)
wrap_case loose n c k w v (Some (Canceler wraps)) b e r = let p = b refl in named_near loose c (Canceler (dropped n wraps)) k w v (λ l. absurd (false≢true (sym e ∙ l))) p.left p.right r
wrap_case loose n c k w v None b e r = r
wrap_case loose n c k w v (Some _) b e r = r

wrap_near : (loose : ℕ → Bool) (n c : ℕ) → Keeps loose (without_wrap n c)
wrap_near loose n c k w v r = by_held loose (without_wrap_in n c) c k k w v (omega arith) (wrap_untold n c) (wrap_spent n c) (λ h b e. wrap_case loose n c k w v h b e r) r

-- more abandoned cells
abbrev more_abandoned : Option Named → List ℕ → List ℕ
more_abandoned None cells = cells
more_abandoned (Some x) cells = cells ++ x.name ∷ []

abandoned_is : (o : Option Named) (w : World) → abandoned_as o w ≡ record w { abandoned = more_abandoned o w.abandoned }
abandoned_is None w = refl
abandoned_is (Some x) w = refl

abandoned_near : (loose : ℕ → Bool) (n : ℕ) → Keeps loose (λ w. abandoned_as (ask_of n w.names) w)
abandoned_near loose n k w v r =
    let a = ask_of n w.names in
    let b = ask_of n v.names in
    let x = lists_near loose k w.asks v.asks w.ended v.ended (more_abandoned a w.abandoned) (more_abandoned b v.abandoned) w v r in
    subst (λ (u : World). Near loose k u (abandoned_as b v)) (sym (abandoned_is a w)) (subst (Near loose k (record w { abandoned = more_abandoned a w.abandoned })) (sym (abandoned_is b v)) x)

unlinked_tame : (loose : ℕ → Bool) (guard : Guard) (f : ℕ → State → State) (n : ℕ) (form : Form) → AllTame loose f → Tame loose (unlinked guard f n form)
unlinked_tame loose guard f n (Cell None) h = tame_world loose (λ w. abandoned_as (ask_of n w.names) w) (abandoned_near loose n)
unlinked_tame loose guard f n (Cell (Some outcome)) h = tame_none loose
unlinked_tame loose guard f n (Branch hub) h = tame_then loose (silent (without_branch n hub)) (reference_gone guard f hub) (tame_world loose (without_branch n hub) (branch_near loose n hub)) (reference_tame loose guard f h hub)
unlinked_tame loose guard f n (Wrap canceler content) h = tame_world loose (without_wrap n canceler) (wrap_near loose n canceler)
unlinked_tame loose guard f n _ h = tame_none loose

free_form_tame : (loose : ℕ → Bool) (guard : Guard) (f : ℕ → State → State) (n : ℕ) (o : Option Form) → AllTame loose f → Tame loose (free_form guard f n o)
free_form_tame loose guard f n None h = tame_none loose
free_form_tame loose guard f n (Some form) h =
    tame_then loose (λ s. unlinked guard f n form (each_freed f (parts_of form) s)) (gone n)
    (tame_then loose (each_freed f (parts_of form)) (unlinked guard f n form) (each_tame loose f h (parts_of form)) (unlinked_tame loose guard f n form h))
    (tame_gone loose n)

free_to_tame : (loose : ℕ → Bool) (guard : Guard) (k : ℕ) → AllTame loose (free_to guard k)
unfolding free_to
free_to_tame loose guard zero n = tame_none loose
free_to_tame loose guard (suc k) n = by_form loose n (free_form guard (free_to guard k) n) (λ o. free_form_tame loose guard (free_to guard k) n o (free_to_tame loose guard k))

pub free_tame : (loose : ℕ → Bool) (guard : Guard) → AllTame loose (free guard)
free_tame loose guard n = tame_read loose depth_of (λ d. free_to guard d n) (λ l u. refl) (λ d. free_to_tame loose guard d n)
