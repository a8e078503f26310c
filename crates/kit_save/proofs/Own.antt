-- The Events of a cut that may still be taken back come back.
use Rattle.std.proofs.Common.{◌≡◌, ℕ, ◌+◌, ◌<◌, ◌≤◌, List, [], ◌∷◌, length, Option, Bool, true, Some, None, Ok, nat_lt, nat_le, codes, refl, subst, arith}
use Rattle.std.specs.Prelude.{if◌then◌else◌, is_some, slice_index_or, unwrap_or}
use Rattle.std.specs.List.{All, AllPairs, list_all}
use Rattle.std.proofs.lemmas.Bool.{and_parts, leb-true}
use Rattle.std.proofs.lemmas.List.Elements.{All-head, All-tail}
use Rattle.serde_json.specs.Data.{Data}
use Rattle.serde_json.specs.Find.{get}
use Rattle.kit_rules.specs.declared.own.Own.{Own}
use Rattle.kit_rules.specs.Parts.{Parts, federate_at, effective_lookahead}
use Rattle.kit_walk.specs.Paths.{item_path}
use Rattle.kit_walk.specs.Places.{list}
use Rattle.kit_cut.specs.ValidCuts.{IsOwn, AreOwn}
use Rattle.kit_save.specs.Values.{list_value}
use Rattle.kit_save.specs.CutValues.{own_row, own_value}
use Rattle.kit_restore.specs.CutWalk.{members_of, row_of, row_step, has_risen, own_of, own_step, most_own, owns_of}
use Rattle.kit_save.proofs.Lists.{middle, pairs_before, one_more, list_read, TakesEach}
use Rattle.kit_save.proofs.Rows.{list_taken}

-- what each passes, all pass
pub all_pass : {X : Type 0} (test : X → Bool) (xs : List X) → All (λ x. test x ≡ true) xs → list_all test xs ≡ true
all_pass test [] h = refl
all_pass test (x ∷ xs) h = rw (All-head (λ y. test y ≡ true) x xs h) (all_pass test xs (All-tail (λ y. test y ≡ true) x xs h))

-- the numbers of one
row_taken : (o : Own) → row_of 3 (own_value o) ≡ Ok (own_row o)
unfolding row_of members_of row_step
row_taken o = refl

-- a number comes before another's
abbrev NumbersRise : Own → Own → Type 0
NumbersRise a b = a.number < b.number

risen : (before : List Own) (o : Own) → All (λ b. NumbersRise b o) before → has_risen before o ≡ true
risen before o h = all_pass (λ (b : Own). nat_lt b.number o.number) before (λ k d lt. let is : NumbersRise (slice_index_or before k d) o = h k d lt in search arith)

-- one after others
own_taken : (p : Parts) (i now next : ℕ) (before : List Own) (o : Own) → All (λ b. NumbersRise b o) before → IsOwn p i now next o → own_of p i now next before (own_value o) ≡ Ok o
unfolding own_of
own_taken p i now next before o rises is =
    let low : nat_le 1 o.number ≡ true = let h = is.low in search arith in
    let high : nat_lt o.number next ≡ true = let h = is.high in search arith in
    let group : nat_lt o.group (length p.groups) ≡ true = let h = is.group in search arith in
    rw (row_taken o, risen before o rises, low, high, is.reach, group) refl

-- each of them
each_own : (p : Parts) (i now next : ℕ) (own : List Own) → AreOwn p i now next own → TakesEach (own_step p i now next) own_value own
unfolding own_step
each_own p i now next own are before o after at =
    one_more (item_path (codes "own") (length before)) (own_of p i now next before (own_value o)) before o
    (own_taken p i now next before o
    (pairs_before NumbersRise before o after (subst (AllPairs NumbersRise) at are.rise))
    (middle (IsOwn p i now next) before o after (subst (All (IsOwn p i now next)) at are.each)))

-- one that is not regulating has none
none_own : (p : Parts) (i now next : ℕ) (o : Own) → (federate_at p i).lookahead ≡ None → IsOwn p i now next o → ⊥
unfolding effective_lookahead
none_own p i now next o unregulating is =
    let parts = and_parts (nat_le (now + effective_lookahead p i) o.time) (nat_le o.time p.end) is.reach in
    let late : now + (p.end + 1) ≤ o.time = leb-true (now + (p.end + 1)) o.time (subst (λ (l : Option ℕ). nat_le (now + unwrap_or l (p.end + 1)) o.time ≡ true) unregulating parts.0) in
    let early : o.time ≤ p.end = leb-true o.time p.end parts.1 in
    omega (arith, late, early)

own_few : (p : Parts) (i now next : ℕ) (own : List Own) → AreOwn p i now next own → length own ≤ most_own p i
own_few p i now next own are = by_lookahead (federate_at p i).lookahead refl own are.few are.each
  where
    by_lookahead : (l : Option ℕ) → (federate_at p i).lookahead ≡ l → (os : List Own) → length os ≤ 16384 → All (IsOwn p i now next) os → length os ≤ (if is_some l then 16384 else 0)
    by_lookahead (Some l) e os few each_ = few
    by_lookahead None e [] few each_ = omega arith
    by_lookahead None e (o ∷ os) few each_ = absurd (none_own p i now next o e (All-head (IsOwn p i now next) o os each_))

-- the list own
pub own_list_taken : (p : Parts) (i now next : ℕ) (d : Data) (own : List Own) → get (codes "own") d ≡ Some (list_value own_value own) → AreOwn p i now next own → owns_of p i now next d ≡ Ok own
unfolding owns_of
own_list_taken p i now next d own e are =
    list_read (list (codes "own") 0 (most_own p i) d) (own_step p i now next) own_value own
    (list_taken (codes "own") 0 (most_own p i) d own_value own e (omega arith) (own_few p i now next own are))
    (each_own p i now next own are)
