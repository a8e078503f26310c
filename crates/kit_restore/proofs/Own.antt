-- The own Events of a federate that were read.
use Rattle.std.proofs.Common.{◌≡◌, ℕ, suc, ◌+◌, ◌<◌, ◌≤◌, Bool, true, false, List, [], length, Ok, nat_lt, nat_le, codes, refl, subst, arith}
use Rattle.std.specs.Prelude.{◌&&◌, if◌then◌else◌, is_some, slice_index_or}
use Rattle.std.specs.List.{All, AllPairs}
use Rattle.std.proofs.lemmas.Bool.{and_parts, leb-true, ltb-true}
use Rattle.std.proofs.lemmas.List.Elements.{All-nil, All-push}
use Rattle.std.proofs.lemmas.List.Sums.{AllPass-from_list_all}
use Rattle.std.proofs.lemmas.List.Quantifiers.{all_pairs_push}
use Rattle.serde_json.specs.Data.{Data}
use Rattle.kit_rules.specs.declared.own.Own.{Own}
use Rattle.kit_rules.specs.Parts.{Parts, federate_at}
use Rattle.kit_walk.specs.Paths.{item_path}
use Rattle.kit_walk.specs.Reading.{◌>>=◌, each}
use Rattle.kit_walk.specs.Places.{list}
use Rattle.kit_cut.specs.Reach.{is_in_reach}
use Rattle.kit_cut.specs.ValidCuts.{IsOwn, AreOwn}
use Rattle.kit_restore.specs.CutWalk.{row_of, guard_at, own_in, has_risen, own_of, own_step, most_own, owns_of}
use Rattle.kit_restore.proofs.Answered.{bind_ok, guarded, gave, gave_same, list_ok, each_kept, appended, one_longer}

-- a lower number than another
abbrev Lower : Own → Own → Type 0
Lower a b = a.number < b.number

-- the numbers before are lower
risen : (done : List Own) (o : Own) → has_risen done o ≡ true → All (λ b. Lower b o) done
risen done o h = λ k d lt. ltb-true (slice_index_or done k d).number o.number (AllPass-from_list_all (λ (b : Own). nat_lt b.number o.number) done h k d lt)

-- one that may stand behind these
abbrev IsNextOwn : Parts → ℕ → ℕ → ℕ → List Own → Own → Type 0
IsNextOwn p i now next done o = All (λ b. Lower b o) done × IsOwn p i now next o

-- what passed the tests
tests_passed : (p : Parts) (i now next : ℕ) (done : List Own) (o q : Own)
    → (guard_at (has_risen done o) 0 >>= λ u. guard_at (nat_le 1 o.number && nat_lt o.number next) 0 >>= λ u. guard_at (is_in_reach p i now o) 1 >>= λ u. guard_at (nat_lt o.group (length p.groups)) 2 >>= λ u. gave o) ≡ Ok q
    → IsNextOwn p i now next done q
tests_passed p i now next done o q e =
    let rise = guarded (has_risen done o) _ _ _ q e in
    let number = guarded (nat_le 1 o.number && nat_lt o.number next) _ _ _ q rise.1 in
    let reach = guarded (is_in_reach p i now o) _ _ _ q number.1 in
    let group = guarded (nat_lt o.group (length p.groups)) _ _ _ q reach.1 in
    let both = and_parts (nat_le 1 o.number) (nat_lt o.number next) number.0 in
    subst (IsNextOwn p i now next done) (gave_same o q group.1) (
      risen done o rise.0,
      record { low = leb-true 1 o.number both.0; high = ltb-true o.number next both.1; reach = reach.0; group = ltb-true o.group (length p.groups) group.0 },
    )

-- one that was read
own_is : (p : Parts) (i now next : ℕ) (done : List Own) (d : Data) (q : Own) → own_of p i now next done d ≡ Ok q → IsNextOwn p i now next done q
unfolding own_of
own_is p i now next done d q e =
    let ns = bind_ok (row_of 3 d) _ q e in
    tests_passed p i now next done (own_in ns.0) q ns.2

-- so many of them
abbrev AreOwnSoFar : Parts → ℕ → ℕ → ℕ → ℕ → List Own → Type 0
AreOwnSoFar p i now next n done = AllPairs Lower done × All (IsOwn p i now next) done × (length done ≡ n)

-- one more
own_kept : (p : Parts) (i now next j : ℕ) (done : List Own) (d : Data) (t : List Own) → AreOwnSoFar p i now next j done → own_step p i now next j done d ≡ Ok t → AreOwnSoFar p i now next (suc j) t
unfolding own_step
own_kept p i now next j done d t h e =
    let o = appended (item_path (codes "own") j) (own_of p i now next done d) done t e in
    let is = own_is p i now next done d o.0 o.1 in
    subst (AreOwnSoFar p i now next (suc j)) o.2 (all_pairs_push Lower done o.0 h.0 is.0, All-push (IsOwn p i now next) done o.0 h.1 is.1, one_longer done o.0 j h.2)

-- a federate has few
few_own : (b : Bool) → (if b then 16384 else 0) ≤ 16384
few_own true = omega arith
few_own false = omega arith

-- the list own that was read
pub owns_are : (p : Parts) (i now next : ℕ) (d : Data) (own : List Own) → owns_of p i now next d ≡ Ok own → AreOwn p i now next own
unfolding owns_of
owns_are p i now next d own e =
    let ds = bind_ok (list (codes "own") 0 (most_own p i) d) (λ ds. each (own_step p i now next) 0 [] ds) own e in
    let many = list_ok (codes "own") 0 (most_own p i) d ds.0 ds.1 in
    let few : most_own p i ≤ 16384 = few_own (is_some (federate_at p i).lookahead) in
    let are = each_kept (AreOwnSoFar p i now next) (own_step p i now next) (own_kept p i now next) 0 [] ds.0 own ((λ k j d lt inside. absurd (omega arith)), All-nil (IsOwn p i now next), refl) ds.2 in
    let long : length own ≡ 0 + length ds.0 = are.2 in
    record { few = omega (arith, long, few, many.1); rise = are.0; each = are.1 }
