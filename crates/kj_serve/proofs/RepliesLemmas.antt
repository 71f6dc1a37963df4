-- Replies, one connection after another.
use Rattle.std.proofs.Common.{◌≡◌, ℕ, List, [], ◌∷◌, ◌++◌, Option, None, Some, sym, subst}
use Rattle.std.specs.Prelude.{IfSome}
use Rattle.http_core.specs.declared.message.Request.{Request}
use Rattle.http_core.specs.declared.message.Answer.{Answer}
use Rattle.http_core.specs.Replies.{IsReplies}
use Rattle.kj_serve.specs.Replay.{AreReplies}

one_more : (f : Request → Answer) (xs rs : List (List ℕ)) (x r : List ℕ) → AreReplies f xs rs → IsReplies f x r → AreReplies f (xs ++ x ∷ []) (rs ++ r ∷ [])
one_more f [] [] x r each is = (is, tt)
one_more f [] (s ∷ rs) x r each is = absurd each
one_more f (y ∷ xs) [] x r each is = absurd each
one_more f (y ∷ xs) (s ∷ rs) x r each is = (each.0, one_more f xs rs x r each.1 is)

-- the replies to one connection more
pub replies_more : (told : Option (Request → Answer)) (xs : List (List ℕ)) (x r : List ℕ) (rs new : List (List ℕ)) → IfSome told (λ f. AreReplies f xs rs) → IfSome told (λ f. IsReplies f x r) → new ≡ rs ++ r ∷ []
    → IfSome told (λ f. AreReplies f (xs ++ x ∷ []) new)
replies_more None xs x r rs new each is more = tt
replies_more (Some f) xs x r rs new each is more = subst (AreReplies f (xs ++ x ∷ [])) (sym more) (one_more f xs rs x r each is)
