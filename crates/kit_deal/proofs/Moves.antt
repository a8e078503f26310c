-- Each move keeps the rule of what is dealt.
use Rattle.std.proofs.Common.{◌≡◌, ◌≤◌, ◌<◌, ◌+◌, ◌-◌, ℕ, List, [], ◌∷◌, ◌++◌, length, set, map, suc, sym, ap, ◌∙◌, refl, arith}
use Rattle.std.proofs.lemmas.List.Sums.{sum_by-cons, sum_by-append, sum_by_push}
use Rattle.std.proofs.lemmas.List.Elements.{All-append, All-cons, All-nil}
use Rattle.std.proofs.Common.{All}
use Rattle.std.specs.List.{sum_by}
use mathlib.Core.Option.{some-ne-none}
use Rattle.crossbeam_queue.specs.Fifo.{Pushes, Pops, Forks, Merges, Learns, Held}
use Rattle.kit_deal.specs.declared.dealing.Hand.{Hand}
use Rattle.kit_deal.specs.Dealings.{AreAll, Holds, IsDealt, all_parts, hand}
use Rattle.kit_deal.proofs.Totals.{total_set, one_of, none_in, of_map, ones}
use Rattle.kit_deal.proofs.Hands.{idle_set, idle_push, whole}

module _ {T : Type 0} (number : T → ℕ) (Open : T → Type 0) (all : List ℕ) where
  abbrev Rule : List T → List Hand → Type 0
  Rule = IsDealt number Open all

  pub begins : Rule [] (hand all_parts all ∷ [])
  begins = (refl, (λ h. omega arith), idle_push [] (hand all_parts all) (λ none. absurd (omega (arith, none))) (λ k v at. absurd (some-ne-none v (sym at))), All-nil Open)

  pub gives : (n k : ℕ) (v : Hand) (x : T) (rest : List ℕ) → Open x → ((h : ℕ → ℕ) → sum_by h v.held ≡ h (number x) + sum_by h rest)
      → Pushes Rule n k v x (λ w. (w.parts ≡ v.parts) × ((h : ℕ → ℕ) → sum_by h v.held ≡ h (number x) + sum_by h w.held))
  gives n k v x rest fits holds items hands room d at = let w = hand v.parts rest in (
    w,
    (
      omega (arith, total_set (λ u. u.parts) hands k v w at, d.0),
      (λ h. omega (arith, sum_by_push (λ y. h (number y)) items x, total_set (λ u. sum_by h u.held) hands k v w at, holds h, d.1 h)),
      idle_set hands k w (λ none. absurd (omega (arith, holds (λ _. 1), ap (sum_by (λ _. 1)) (d.2 k v at none)))) d.2,
      All-append Open items (x ∷ []) d.3 (All-cons Open x [] fits (All-nil Open)),
    ),
    (refl, holds),
  )

  pub room_is_left : (k : ℕ) (v : Hand) → Learns Rule k v (λ items. length items + length v.held ≤ length all)
  room_is_left k v items hands d at =
      omega (arith, d.1 (λ _. 1), ones items, ones v.held, ones all, one_of (λ (u : Hand). sum_by (λ _. 1) u.held) hands k v at)

  pub within : (k : ℕ) (v : Hand) → Learns Rule k v (λ items. length v.held ≤ length all)
  within k v items hands d at = omega (arith, room_is_left k v items hands d at)

  pub takes : (k : ℕ) (v : Hand) → 0 < v.parts
      → Pops Rule k v (λ x w. (w ≡ hand v.parts (v.held ++ number x ∷ [])) × Open x × (length w.held ≤ length all))
  takes k v some_part x items hands d at = let w = hand v.parts (v.held ++ number x ∷ []) in
      let now : Rule items (set hands k w) = (
        omega (arith, total_set (λ u. u.parts) hands k v w at, d.0),
        (λ h. omega (arith, sum_by-cons (λ y. h (number y)) x items, sum_by_push h v.held (number x), total_set (λ u. sum_by h u.held) hands k v w at, d.1 h)),
        idle_set hands k w (λ none. absurd (omega (arith, none, some_part))) d.2,
        (λ j e short. d.3 (suc j) e (omega (arith, short))),
      ) in
      (w, now, (refl, d.3 0 x (omega arith), omega (arith, total_set (λ u. sum_by (λ _. 1) u.held) hands k v w at, sum_by_push (λ _. 1) v.held (number x), sum_by-cons (λ _. 1) x items, d.1 (λ _. 1), ones w.held, ones all, one_of (λ (u : Hand). sum_by (λ _. 1) u.held) hands k v at)))

  pub settles : (k : ℕ) (v : Hand) → Learns Rule k v (λ items. v.parts ≡ all_parts → (h : ℕ → ℕ) → sum_by (λ x. h (number x)) items + sum_by h v.held ≡ sum_by h all)
  settles k v items hands d at every h = omega (arith, d.1 h, whole (sum_by h) refl hands k v d.2 at (d.0 ∙ sym every))

  pub forks : (k : ℕ) (v : Hand) → 1 < v.parts → Forks Rule k v (hand (v.parts - 1) v.held) (hand 1 [])
  forks k v two items hands d at = let w = hand (v.parts - 1) v.held in (
    omega (arith, sum_by_push (λ (u : Hand). u.parts) (set hands k w) (hand 1 []), total_set (λ u. u.parts) hands k v w at, d.0, two),
    (λ h. omega (arith, sum_by_push (λ (u : Hand). sum_by h u.held) (set hands k w) (hand 1 []), total_set (λ u. sum_by h u.held) hands k v w at, d.1 h)),
    idle_push (set hands k w) (hand 1 []) (λ _. refl) (idle_set hands k w (λ none. absurd (omega (arith, none, two))) d.2),
    d.3,
  )

  pub merges : (k : ℕ) (v : Hand) (j : ℕ) (u : Hand) → 0 < v.parts → Merges Rule k v j u (hand (v.parts + u.parts) (v.held ++ u.held)) (hand 0 [])
  merges k v j u some_part items hands d at apart at' = let w = hand (v.parts + u.parts) (v.held ++ u.held) in let mid = set hands k w in (
    omega (arith, total_set (λ y. y.parts) hands k v w at, total_set (λ y. y.parts) mid j u (hand 0 []) at', d.0),
    (λ h. omega (arith, sum_by-append h v.held u.held, total_set (λ y. sum_by h y.held) hands k v w at, total_set (λ y. sum_by h y.held) mid j u (hand 0 []) at', d.1 h)),
    idle_set mid j (hand 0 []) (λ _. refl) (idle_set hands k w (λ none. absurd (omega (arith, none, some_part))) d.2),
    d.3,
  )

  -- a queue that was full holds all that is dealt, and the hand holds an item besides
  pub never_full : (n : ℕ) (v : Hand) (x : T) (rest : List ℕ) → n ≡ length all → ((h : ℕ → ℕ) → sum_by h v.held ≡ h (number x) + sum_by h rest)
      → Held n (λ (items : List T). length items + length v.held ≤ length all) → ⊥
  never_full n v x rest all_fit holds full = absurd (omega (arith, all_fit, holds (λ _. 1), ones v.held, full.1, full.2))

  -- an empty queue leaves all to the hand that has every part
  pub all_here : (v : Hand) (kept : List T) → v.parts ≡ all_parts → Holds number v kept
      → Held 0 (λ (items : List T). v.parts ≡ all_parts → (h : ℕ → ℕ) → sum_by (λ x. h (number x)) items + sum_by h v.held ≡ sum_by h all)
      → AreAll number all kept
  all_here v kept every holds empty h = omega (arith, holds h, empty.2 every h, none_in (λ x. h (number x)) empty.0 empty.1)

  -- a hand that took an item holds no more than all, so there is room for the item beside those that are kept
  pub is_room : (v w : Hand) (kept : List T) (n room : ℕ) → w ≡ hand v.parts (v.held ++ n ∷ []) → Holds number v kept → length w.held ≤ length all → length all ≤ room → length kept < room
  is_room v w kept n room is holds most enough =
      omega (arith, holds (λ _. 1), ones v.held, ones kept, ones (v.held ++ n ∷ []), sum_by_push (λ _. 1) v.held n, ap (λ (u : Hand). length u.held) is, most, enough)

  pub may_give : (v w : Hand) (x y : T) → w ≡ hand v.parts (v.held ++ number x ∷ []) → number y ≡ number x
      → (rest : List ℕ) × ((h : ℕ → ℕ) → sum_by h w.held ≡ h (number y) + sum_by h rest)
  may_give v w x y is same = (v.held, λ h. omega (arith, sum_by_push h v.held (number x), ap (λ (u : Hand). sum_by h u.held) is, ap h same))

  -- two hands together hold what both kept
  pub holds_both : (v w : Hand) (p : ℕ) (kept more : List T) → Holds number v kept → Holds number w more → Holds number (hand p (v.held ++ w.held)) (kept ++ more)
  holds_both v w p kept more mine theirs h =
      omega (arith, mine h, theirs h, sum_by-append h v.held w.held, sum_by-append (λ x. h (number x)) kept more)

  pub room_for_both : (v : Hand) (kept more : List T) (room : ℕ) → Holds number v (kept ++ more) → length v.held ≤ length all → length all ≤ room → length kept + length more ≤ room
  room_for_both v kept more room holds most enough =
      omega (arith, holds (λ _. 1), ones v.held, ones kept, ones more, sum_by-append (λ (_ : T). 1) kept more, most, enough)

  -- the first of several items may be given, and then the others are held
  pub gives_first : (v : Hand) (x : T) (ys : List T) → Holds number v (x ∷ ys) → (rest : List ℕ) × ((h : ℕ → ℕ) → sum_by h v.held ≡ h (number x) + sum_by h rest)
  gives_first v x ys holds = (map number ys, λ h. omega (arith, holds h, sum_by-cons (λ y. h (number y)) x ys, of_map h number ys))

  pub gave_first : (v w : Hand) (x : T) (ys : List T) → Holds number v (x ∷ ys) → ((h : ℕ → ℕ) → sum_by h v.held ≡ h (number x) + sum_by h w.held) → Holds number w ys
  gave_first v w x ys holds given h = omega (arith, holds h, given h, sum_by-cons (λ y. h (number y)) x ys)

  pub others_are_open : (x : T) (ys : List T) → All Open (x ∷ ys) → All Open ys
  others_are_open x ys fit k d short = fit (suc k) d (omega (arith, short))
