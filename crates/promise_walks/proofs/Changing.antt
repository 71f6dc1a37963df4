-- One change after another.
use Rattle.std.proofs.Common.{◌≡◌, List, [], Option, refl, sym, ap, ◌∙◌, subst}
use Rattle.std.proofs.lemmas.List.{append-nil}
use Rattle.kj_model.specs.World.{World, State}
use Rattle.kj_base.specs.Record.{Item}
use Rattle.promise_commands.specs.Telling.{Telling}
use Rattle.kj_model.specs.Changes.{silent}
use Rattle.promise_walks.specs.Walks.{Moves, Does}
use Rattle.promise_walks.proofs.Composed.{hears_none, does_then}

-- a change that isn't told behind one that is, and what is left to do then
pub moves_silent : (A B C : World → Type 0) (f g h : State → State) (change : World → World) (xs : List Item) → Moves A B f (λ s. s) xs
    → ((s : State) → A s.world → B (f s).world → C (change (f s).world) × (h (silent change (f s)) ≡ g s)) → Moves A C g h xs
moves_silent A B C f g h change xs m then s stands =
    let r = m s stands in
    let q = then s stands (subst (λ (t : State). B t.world) r.ends r.stands) in
    record {
      state = silent change (f s);
      stands = q.0;
      past_is = ap (λ (t : State). t.past) (sym r.ends) ∙ r.past_is;
      ends = q.1;
    }

-- the same with what was told
pub does_silent : (A B C : World → Type 0) (f g h : State → State) (change : World → World) (a b : Telling) → Does A B f (λ s. s) a b
    → ((s : State) → A s.world → B (f s).world → C (change (f s).world) × (h (silent change (f s)) ≡ g s)) → Does A C g h a b
does_silent A B C f g h change a b d then = record { items = d.items; told = d.told; moves = moves_silent A B C f g h change d.items d.moves then }

-- what is left to do then
does_over : (A B : World → Type 0) (f g : State → State) (a b : Telling) → Does A B f (λ s. s) a b → Does A B (λ s. g (f s)) g a b
does_over A B f g a b d = record {
  items = d.items;
  told = d.told;
  moves = λ s stands. let r = d.moves s stands in record { state = r.state; stands = r.stands; past_is = r.past_is; ends = ap g r.ends };
}

-- one after the other
pub does_both : (A B C : World → Type 0) (f g : State → State) (a b c : Telling) → Does A B f (λ s. s) a b → Does B C g (λ s. s) b c → Does A C (λ s. g (f s)) (λ s. s) a c
does_both A B C f g a b c d e = does_then A B C (λ s. g (f s)) g (λ s. s) a b c (does_over A B f g a b d) e

-- from fewer worlds
pub does_less : (A B C : World → Type 0) (f g : State → State) (a b : Telling) → ((w : World) → B w → A w) → Does A C f g a b → Does B C f g a b
does_less A B C f g a b less d = record { items = d.items; told = d.told; moves = λ s stands. d.moves s (less s.world stands) }

-- nothing is done
pub does_none : (A : World → Type 0) (a : Telling) → Does A A (λ s. s) (λ s. s) a a
does_none A a = record { items = []; told = hears_none a; moves = λ s stands. record { state = s; stands = stands; past_is = sym (append-nil s.past); ends = refl } }

-- nothing is done yet, of which this much is known
pub does_more : (A B : World → Type 0) (f : State → State) (a : Telling) → ((w : World) → A w → B w) → Does A B f f a a
does_more A B f a more = record { items = []; told = hears_none a; moves = λ s stands. record { state = s; stands = more s.world stands; past_is = sym (append-nil s.past); ends = refl } }

-- a change after which this is left to do, and more is known
pub does_on : (P A C Q : World → Type 0) (f g h : State → State) (a b : Telling) → ((w : World) → P w → A w) → Does A C f (λ s. s) a b → ((s : State) → P s.world → h (f s) ≡ g s) → ((s : State) → P s.world → C (f s).world → Q (f s).world) → Does P Q g h a b
does_on P A C Q f g h a b less d same more = record {
  items = d.items;
  told = d.told;
  moves = λ s p.
      let r = d.moves s (less s.world p) in
      record {
        state = f s;
        stands = more s p (subst (λ (t : State). C t.world) r.ends r.stands);
        past_is = ap (λ (t : State). t.past) (sym r.ends) ∙ r.past_is;
        ends = same s p;
      };
}

-- nothing is left to do
pub does_ends : (A P B : World → Type 0) (f g : State → State) (a b : Telling) → ((w : World) → P w → B w) → ((s : State) → P s.world → g s ≡ s) → Does A P f g a b → Does A B f (λ s. s) a b
does_ends A P B f g a b less none d = record {
  items = d.items;
  told = d.told;
  moves = λ s stands. let r = d.moves s stands in record { state = r.state; stands = less r.state.world r.stands; past_is = r.past_is; ends = sym (none r.state r.stands) ∙ r.ends };
}

-- a change that isn't told before one that is
pub does_behind : (A B C : World → Type 0) (f : State → State) (change : World → World) (a b : Telling) → ((w : World) → A w → B (change w)) → Does B C f (λ s. s) a b → Does A C (λ s. f (silent change s)) (λ s. s) a b
does_behind A B C f change a b changed d = record {
  items = d.items;
  told = d.told;
  moves = λ s stands. let r = d.moves (silent change s) (changed s.world stands) in record { state = r.state; stands = r.stands; past_is = r.past_is; ends = r.ends };
}

-- a change after which this is left to do, by what is known then
pub does_onward : (P A C Q : World → Type 0) (f g h : State → State) (a b : Telling) → ((w : World) → P w → A w) → Does A C f (λ s. s) a b → ((s : State) → P s.world → C (f s).world → (h (f s) ≡ g s) × Q (f s).world) → Does P Q g h a b
does_onward P A C Q f g h a b less d then = record {
  items = d.items;
  told = d.told;
  moves = λ s p.
      let r = d.moves s (less s.world p) in
      let q = then s p (subst (λ (t : State). C t.world) r.ends r.stands) in
      record {
        state = f s;
        stands = q.1;
        past_is = ap (λ (t : State). t.past) (sym r.ends) ∙ r.past_is;
        ends = q.0;
      };
}
