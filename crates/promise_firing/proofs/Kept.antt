-- What calls keep, one after another.
use Rattle.std.proofs.Common.{◌≡◌, ℕ, ◌≤◌, refl, sym, ◌∙◌, arith}
use Rattle.promise_nodes.specs.Kept.{OnlyFalls, OnlyRises}
use Rattle.promise_firing.specs.Ground.{Ground, IsSound, Keeps}
use Rattle.promise_firing.proofs.Replacing.{fallen}

-- nothing becomes a tree, and no number is given
pub record Rests (old new : Ground) : Type 0 where
  pub taken : OnlyFalls old.taken new.taken
  pub plain : OnlyRises old.plain new.plain
  pub next_is : new.next ≡ old.next
  pub slots_are : new.slots ≡ old.slots
  pub roots : (name : ℕ) → new.roots name ≡ old.roots name
  pub count : new.count ≡ old.count
  pub limit_is : new.limit ≡ old.limit
  pub frames : old.frames ≤ new.frames
  pub search : old.search ≤ new.search

pub keeps_rest : (old new : Ground) → IsSound old → Rests old new → Keeps old new
keeps_rest old new s r = record {
  sound = record {
    free = record {
      untaken = λ name root h. fallen (new.taken root) (old.taken root) (s.free.untaken name root (sym (r.roots name) ∙ h)) (r.taken root);
      built = λ name root h. let b = s.free.built name root (sym (r.roots name) ∙ h) in omega (arith, b, r.next_is);
      apart = λ name other root h k. s.free.apart name other root (sym (r.roots name) ∙ h) (sym (r.roots other) ∙ k);
    };
    few = omega (arith, s.few, r.count, r.limit_is);
    frames_room = omega (arith, s.frames_room, r.slots_are, r.frames);
    search_room = omega (arith, s.search_room, r.slots_are, r.search);
  };
  plain = r.plain;
  next_is = r.next_is;
  slots_are = r.slots_are;
  limit_is = r.limit_is;
}

-- one call after another
pub keeps_then : (a b c : Ground) → Keeps a b → Keeps b c → Keeps a c
keeps_then a b c p q = record {
  sound = q.sound;
  plain = λ n h. q.plain n (p.plain n h);
  next_is = q.next_is ∙ p.next_is;
  slots_are = q.slots_are ∙ p.slots_are;
  limit_is = q.limit_is ∙ p.limit_is;
}

-- nothing is called
pub keeps_same : (a : Ground) → IsSound a → Keeps a a
keeps_same a s = record { sound = s; plain = λ n h. h; next_is = refl; slots_are = refl; limit_is = refl }
