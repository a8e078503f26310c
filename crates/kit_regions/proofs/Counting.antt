-- How many rules a rule becomes.
use Rattle.std.proofs.Common.{◌≡◌, ℕ, suc, ◌+◌, ◌<◌, Bool, true, false, nat_eq, refl, ap, ◌∙◌, cond, List, [], ◌∷◌, length, get_or, map, filter, count_by, arith}
use Rattle.std.specs.List.{range_with_len}
use Rattle.std.proofs.lemmas.List.{length-map}
use Rattle.std.proofs.lemmas.List.Sums.{length-filter}
use Rattle.kit_rules.specs.declared.table.Trigger.TheVariants.{Got}
use Rattle.kit_rules.specs.declared.table.Rule.{Rule}
use Rattle.kit_regions.specs.declared.region.Update.{Update}
use Rattle.kit_regions.specs.Plan.{no_update}
use Rattle.kit_regions.specs.Lowered.{with_trigger, updates_of}

as_many : {X Y : Type 0} (x : X) (y : Y) (xs : List X) (ys : List Y) (b : Bool) → length xs ≡ length ys → length (cond b (x ∷ xs) xs) ≡ length (cond b (y ∷ ys) ys)
as_many x y xs ys true e = let more : suc (length xs) ≡ suc (length ys) = ap suc e in more
as_many x y xs ys false e = e

-- the places of a list that pass are as many as its members that do
count_from : (q : Update → Bool) (p : ℕ → Bool) (a : ℕ) (us : List Update) → ((k i : ℕ) → k < length us → a + k ≡ i → p i ≡ q (get_or us k no_update))
    → length (filter p (range_with_len a (length us))) ≡ length (filter q us)
count_from q p a [] h = refl
count_from q p a (u ∷ us) h =
    as_many a u (filter p (range_with_len (a + 1) (length us))) (filter q us) (p a) (count_from q p (a + 1) us (λ k i lt e. h (suc k) i (omega arith) (omega arith)))
    ∙ ap (λ b. length (cond b (u ∷ filter q us) (filter q us))) (h 0 a (omega arith) (omega arith))

-- the rules on Got of a group's updates, as many as those
pub got_counted : (updates : List Update) (r : Rule) (g : ℕ) → length (map (with_trigger r) (map (λ u. Got u) (updates_of updates g))) ≡ count_by (λ (u : Update). nat_eq u.group g) updates
got_counted updates r g =
    length-map (map (λ u. Got u) (updates_of updates g)) (with_trigger r)
    ∙ length-map (updates_of updates g) (λ u. Got u)
    ∙ count_from (λ u. nat_eq u.group g) (λ u. nat_eq (get_or updates u no_update).group g) 0 updates (λ k i lt e. ap (λ i. nat_eq (get_or updates i no_update).group g) (let s : i ≡ k = omega arith in s))
    ∙ length-filter (λ (u : Update). nat_eq u.group g) updates
