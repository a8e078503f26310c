-- The low of a contribution, by the least time of the posts of a run's colour.
use Rattle.std.proofs.Common.{◌≡◌, ℕ, ◌==◌, min, Bool, true, false, cond, [], ◌∷◌, Option, Some, None, refl, ◌∙◌, arith}
use Rattle.kit_lbts.specs.Promises.{LowsAreLeast, least_post, least_with, low_in}

with_both : (a t : ℕ) (o : Option ℕ) → least_with (min a t) o ≡ min a (least_with t o)
with_both a t None = refl
with_both a t (Some u) = omega arith

pub lows_are_least : LowsAreLeast
lows_are_least run promise [] = refl
lows_are_least run promise (c ∷ cs) = by (c.stamp.colour == run) (λ a. lows_are_least run a cs)
  where
    by : (b : Bool) → ((a : ℕ) → low_in run a cs ≡ least_with a (least_post run cs))
        → low_in run (cond b (min promise c.stamp.time) promise) cs ≡ least_with promise (cond b (Some (least_with c.stamp.time (least_post run cs))) (least_post run cs))
    by true rest = rest (min promise c.stamp.time) ∙ with_both promise c.stamp.time (least_post run cs)
    by false rest = rest promise
