-- What calls on nodes leave of names, and what stays live.
use Rattle.std.proofs.Common.{◌≡◌, ℕ, List, [], ◌∷◌, Option, None, Some, IsSome, Bool, true, false, refl, sym, ap, ◌∙◌, subst, arith}
use Rattle.std.specs.Prelude.{nat_eq}
use Rattle.std.proofs.lemmas.Bool.{false≢true}
use Rattle.std.proofs.lemmas.Bool.Decides.{nat_tests}
use Rattle.kj_base.specs.declared.outcomes.Outcome.{Outcome}
use Rattle.kj_base.specs.Queue.{Way, DepthFirst}
use Rattle.kj_model.specs.Nodes.{Form, Ready, Later, Last, Cell, Branch, Then, Chain, Eager, Wrap, Hub, Side, Race, Join, Task, Request, form_at, kept_form, with_form, is_in}
use Rattle.kj_model.specs.World.{World, depth_of}
use Rattle.kj_model.specs.Changes.{put}
use Rattle.kj_model.specs.Listening.{listened, listened_if, listened_way, listener, ready, is_last, announced, join_ready}
use Rattle.kj_model.specs.Fire.{keeps, kept_at, branches_of, each_announced, branches_announced, announced_if, fast_announced}
use Rattle.kj_model.proofs.Spared.{form_put_same, form_put_other}
use Rattle.promise_nodes.specs.Kept.{SameNames, IsLive}
use Rattle.promise_nodes.proofs.Same.{armed_names}
use Rattle.promise_firing.specs.Outliving.{BranchesLive}

-- one change after another
pub names_then : (w v u : World) → SameNames w v → SameNames v u → SameNames w u
names_then w v u a b = b ∙ ap (λ (x : World). record x { queue = u.queue; nodes = u.nodes; detached = u.detached; firing = u.firing; next = u.next; spots = u.spots; next_key = u.next_key }) a

-- names stay when a listener is armed
pub announced_names : (way : Way) (n : ℕ) (w : World) → SameNames w (announced way n w)
announced_names way n w = armed_names way (listener n w) w

listened_case : (b : Bool) (n : ℕ) (w : World) → SameNames w (listened_if b n w)
listened_case true n w = armed_names (listened_way (is_last (depth_of w) w.nodes n)) (listener n w) w
listened_case false n w = refl

-- and when a tree gets a listener
pub listened_names : (n : ℕ) (w : World) → SameNames w (listened n w)
listened_names n w = listened_case (ready (depth_of w) w.nodes n) n w

kept_names : (n : ℕ) (o : Outcome) (f : Option Form) (w : World) → SameNames w (kept_at n o f w)
kept_names n o None w = refl
kept_names n o (Some form) w = refl

-- and when an outcome is kept
pub keeps_names : (n : ℕ) (o : Outcome) (w : World) → SameNames w (keeps n o w)
keeps_names n o w = kept_names n o (form_at n w.nodes) w

some_is : (o : Option Form) (form : Form) → o ≡ Some form → IsSome o
some_is o form h = rw h refl

kept_lives : (n : ℕ) (o : Outcome) (f : Option Form) (w : World) → form_at n w.nodes ≡ f → IsSome f → IsLive (kept_at n o f w) n
kept_lives n o None w e h = absurd (false≢true h)
kept_lives n o (Some form) w e h = some_is (form_at n (kept_at n o (Some form) w).nodes) (kept_form o form) (form_put_same n (kept_form o form) form w.nodes e)

-- a node lives on that keeps an outcome
pub keeps_live : (n : ℕ) (o : Outcome) (w : World) → IsLive w n → IsLive (keeps n o w) n
keeps_live n o w h = kept_lives n o (form_at n w.nodes) w refl h

live_case : (b : Bool) (n m : ℕ) (form : Form) (o : Option Form) (w : World) → nat_eq n m ≡ b → form_at m w.nodes ≡ o → IsSome o → IsLive (put n form w) m
live_case b n m form None w e h live = absurd (false≢true live)
live_case false n m form (Some old) w e h live = some_is (form_at m (with_form n form w.nodes)) old (form_put_other n m form w.nodes e ∙ h)
live_case true n m form (Some old) w e h live =
    let same : n ≡ m = grind (arith, nat_tests) in
    subst (λ (k : ℕ). IsLive (put n form w) k) same (some_is (form_at n (with_form n form w.nodes)) form (form_put_same n form old w.nodes (ap (λ (k : ℕ). form_at k w.nodes) same ∙ h)))

-- no node goes when one gets another form
pub put_live : (n m : ℕ) (form : Form) (w : World) → IsLive w m → IsLive (put n form w) m
put_live n m form w live = live_case (nat_eq n m) n m form (form_at m w.nodes) w refl refl live

others_case : (n m : ℕ) (o : Outcome) (f : Option Form) (w : World) → IsLive w m → IsLive (kept_at n o f w) m
others_case n m o None w live = live
others_case n m o (Some form) w live = put_live n m (kept_form o form) w live

-- nor when one keeps an outcome
pub keeps_others : (n m : ℕ) (o : Outcome) (w : World) → IsLive w m → IsLive (keeps n o w) m
keeps_others n m o w live = others_case n m o (form_at n w.nodes) w live

branches_kept : (o : Outcome) (form : Form) → branches_of (Some (kept_form o form)) ≡ branches_of (Some form)
branches_kept o (Hub content is_named branches) = refl
branches_kept o (Ready outcome) = refl
branches_kept o Later = refl
branches_kept o Last = refl
branches_kept o (Cell outcome) = refl
branches_kept o (Branch hub) = refl
branches_kept o (Then value error tree) = refl
branches_kept o (Chain link) = refl
branches_kept o (Eager content) = refl
branches_kept o (Wrap canceler content) = refl
branches_kept o (Side stage) = refl
branches_kept o (Race left right winner) = refl
branches_kept o (Join fast sides) = refl
branches_kept o (Task tree) = refl
branches_kept o (Request name tree) = refl

branches_case : (hub : ℕ) (o : Outcome) (f : Option Form) (w : World) → form_at hub w.nodes ≡ f → BranchesLive hub w → BranchesLive hub (kept_at hub o f w)
branches_case hub o None w e live = live
branches_case hub o (Some form) w e live = λ b h.
    let same : branches_of (form_at hub (with_form hub (kept_form o form) w.nodes)) ≡ branches_of (form_at hub w.nodes) =
    ap branches_of (form_put_same hub (kept_form o form) form w.nodes e) ∙ branches_kept o form ∙ sym (ap branches_of e) in
    put_live hub b (kept_form o form) w (live b (sym (ap (is_in b) same) ∙ h))

-- the branches of a hub live on when it keeps an outcome
pub keeps_branches : (hub : ℕ) (o : Outcome) (w : World) → BranchesLive hub w → BranchesLive hub (keeps hub o w)
keeps_branches hub o w live = branches_case hub o (form_at hub w.nodes) w refl live

each_names : (ns : List ℕ) (w : World) → SameNames w (each_announced ns w)
each_names [] w = refl
each_names (n ∷ ns) w = names_then w (announced DepthFirst n w) (each_announced ns (announced DepthFirst n w)) (announced_names DepthFirst n w) (each_names ns (announced DepthFirst n w))

-- names stay when who listens to each branch is armed
pub branches_names : (hub : ℕ) (w : World) → SameNames w (branches_announced hub w)
branches_names hub w = each_names (branches_of (form_at hub w.nodes)) w

if_names : (b : Bool) (n : ℕ) (w : World) → SameNames w (announced_if b n w)
if_names true n w = announced_names DepthFirst n w
if_names false n w = refl

-- and when who listens to a fast join is armed
pub fast_names : (was : Bool) (n : ℕ) (sides : List ℕ) (w : World) → SameNames w (fast_announced was n sides w)
fast_names true n sides w = refl
fast_names false n sides w = if_names (join_ready true sides w.nodes) n w
