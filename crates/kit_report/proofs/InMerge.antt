-- A merge that takes the first of the firsts, again and again.
use Rattle.std.proofs.Common.{◌≡◌, ◌≢◌, ℕ, suc, inl, inr, ◌⊎◌, ◌<◌, ◌≤◌, ◌&&◌, ◌||◌, nat_eq, nat_lt, true, IsTrue, List, [], ◌∷◌, ◌++◌, length, get_or, set, arith, refl, sym, ap, ◌∙◌, subst, length-set}
use Rattle.std.specs.List.{All, AllByRecursion, AllPairs, Contains}
use Rattle.std.proofs.lemmas.Bool.{and_parts, cases_eq, eq-eqb, eqb-true, lt-ltb, ltb-true, ne_eqb, or_cases}
use Rattle.std.proofs.lemmas.List.{append_assoc, append-nil, get_or-set_same, get_or-set_other}
use Rattle.std.proofs.lemmas.List.Elements.{All-push, All-contains, filter-append}
use Rattle.kit_base.proofs.Among.{Among, among_right, among_cases, contains_among, among_contains, each_of, for_each}
use Rattle.kit_rules.specs.Simulation.{Block, is_sooner}
use Rattle.kit_rules.specs.Merging.{Ascend, IsMerge, IsPart, IsSooner, blocks_of, grants_of, is_grant_of}

-- in the midst of a merge: what was taken, and what is left of each part
pub record IsMerging (parts : List (List Block)) (out : List Block) (rest : List (List Block)) : Type 0 where
  pub count : length rest ≡ length parts
  pub ascend : Ascend (grants_of out)
  pub federates : All (λ (b : Block). b.federate < length parts) out
  pub split : (k : ℕ) → k < length parts → get_or parts k [] ≡ blocks_of k out ++ get_or rest k []
  pub before : (a b : Block) (k : ℕ) → Contains out a → k < length parts → Contains (get_or rest k []) b → IsSooner a b

-- blocks of a federate, with one more
blocks_here : (i : ℕ) (bs : List Block) (b : Block) → b.federate ≡ i → blocks_of i (bs ++ b ∷ []) ≡ blocks_of i bs ++ b ∷ []
blocks_here i bs b e = filter-append (is_grant_of i) bs (b ∷ []) ∙ (let t : nat_eq b.federate i ≡ true = eq-eqb b.federate i e in rw t refl)

blocks_there : (i : ℕ) (bs : List Block) (b : Block) → b.federate ≢ i → blocks_of i (bs ++ b ∷ []) ≡ blocks_of i bs
blocks_there i bs b ne = filter-append (is_grant_of i) bs (b ∷ []) ∙ rw (ne_eqb b.federate i ne) (append-nil (blocks_of i bs))

-- the grant of a block
abbrev grant_of : Block → ℕ × ℕ
grant_of b = (b.time, b.federate)

-- by numbers
sooner_cases : (a b : ℕ × ℕ) → is_sooner a b ≡ true → (a.0 < b.0) ⊎ ((a.0 ≡ b.0) × (a.1 < b.1))
sooner_cases a b h =
    elim (or_cases (nat_lt a.0 b.0) (nat_eq a.0 b.0 && nat_lt a.1 b.1) h) [
      | inl lt ↦ inl (ltb-true a.0 b.0 lt)
      | inr eq ↦ (let r = and_parts (nat_eq a.0 b.0) (nat_lt a.1 b.1) eq in inr (eqb-true a.0 b.0 r.0, ltb-true a.1 b.1 r.1))
    ]

-- an earlier block comes before
earlier : (a b : Block) → a.time < b.time → IsSooner a b
earlier a b lt = ap (λ t. t || (nat_eq a.time b.time && nat_lt a.federate b.federate)) (lt-ltb a.time b.time lt)

-- one that comes before another is no later
no_later : (a b : Block) → IsSooner a b → a.time ≤ b.time
no_later a b s = elim (sooner_cases (grant_of a) (grant_of b) s) [ inl l ↦ (let l' : a.time < b.time = l in omega arith) | inr e ↦ (let e' : a.time ≡ b.time = e.0 in omega arith) ]

-- one more at the end
each_push : (P : ℕ × ℕ → Type 0) (bs : List Block) (b : Block) → AllByRecursion P (grants_of bs) → P (grant_of b) → AllByRecursion P (grants_of (bs ++ b ∷ []))
each_push P [] b h here = (here, tt)
each_push P (x ∷ xs) b h here = (h.0, each_push P xs b h.1 here)

ascend_push : (bs : List Block) (b : Block) → Ascend (grants_of bs) → ((a : Block) → Among a bs → IsSooner a b) → Ascend (grants_of (bs ++ b ∷ []))
ascend_push [] b h before = (tt, tt)
ascend_push (x ∷ xs) b h before = (each_push (λ g. IsTrue (is_sooner (grant_of x) g)) xs b h.0 (before x (inl refl)), ascend_push xs b h.1 (λ a in_xs. before a (inr in_xs)))

-- each is related to those behind it
abbrev Rises : {X : Type 0} → (X → X → Type 0) → List X → Type 0
Rises lt [] = Unit {0}
Rises lt (x ∷ xs) = AllByRecursion (lt x) xs × Rises lt xs

-- what stands behind a block of a part is later
pairs_rise : {X : Type 0} (R : X → X → Type 0) (xs : List X) → AllPairs R xs → Rises R xs
pairs_rise R [] h = tt
pairs_rise {X} R (x ∷ xs) h = (
  for_each (R x) xs (λ y a. let c = among_contains y xs a in let P : X → Type 0 = R x in subst P c.2 (h 0 (suc c.0) y (omega arith) (let l : c.0 < length xs = c.1 in omega arith))),
  pairs_rise R xs (λ i j d lt within. h (suc i) (suc j) d (omega arith) (omega arith)),
)

rises_behind : {X : Type 0} (R : X → X → Type 0) (xs ys : List X) → Rises R (xs ++ ys) → Rises R ys
rises_behind R [] ys h = h
rises_behind R (x ∷ xs) ys h = rises_behind R xs ys h.1

behind_later : (xs : List Block) (b : Block) (bs : List Block) (c : Block) → AllPairs (λ (a b : Block). a.time < b.time) (xs ++ b ∷ bs) → Among c bs → b.time < c.time
behind_later xs b bs c h a = each_of (λ (x : Block). b.time < x.time) c bs (rises_behind (λ (a b : Block). a.time < b.time) xs (b ∷ bs) (pairs_rise (λ (a b : Block). a.time < b.time) (xs ++ b ∷ bs) h)).0 a

-- nothing was taken
pub merge_starts : (parts : List (List Block)) → IsMerging parts [] parts
merge_starts parts = record {
  count = refl;
  ascend = tt;
  federates = λ k d lt. absurd (omega arith);
  split = λ k lt. refl;
  before = λ a b k c lt d. absurd (let l : c.0 < 0 = c.1 in omega arith);
}

-- nothing is left
pub merge_ends : (parts : List (List Block)) (out : List Block) (rest : List (List Block)) → IsMerging parts out rest → ((k : ℕ) → k < length parts → get_or rest k [] ≡ []) → IsMerge parts out
merge_ends parts out rest m none = record {
  ascend = m.ascend;
  federates = m.federates;
  split = λ k lt. sym (m.split k lt ∙ ap (λ xs. blocks_of k out ++ xs) (none k lt) ∙ append-nil (blocks_of k out));
}

-- the first block of a part is taken that comes before those of the others
pub merge_goes_on : (parts : List (List Block)) → ((k : ℕ) → k < length parts → IsPart k (get_or parts k [])) → (out : List Block) (rest : List (List Block)) → IsMerging parts out rest
    → (k : ℕ) → k < length parts → (b : Block) (bs : List Block) → get_or rest k [] ≡ b ∷ bs
    → ((j : ℕ) (c : Block) (cs : List Block) → j < length parts → j ≢ k → get_or rest j [] ≡ c ∷ cs → IsSooner b c)
    → IsMerging parts (out ++ b ∷ []) (set rest k bs)
merge_goes_on parts are out rest m k lt b bs is first =
    let P : List Block → Type 0 = IsPart k in
    let whole : get_or parts k [] ≡ blocks_of k out ++ b ∷ bs = m.split k lt ∙ ap (λ xs. blocks_of k out ++ xs) is in
    let here : IsPart k (blocks_of k out ++ b ∷ bs) = subst P whole (are k lt) in
    let own : b.federate ≡ k = All-contains (λ (x : Block). x.federate ≡ k) (blocks_of k out ++ b ∷ bs) b here.own (among_contains b (blocks_of k out ++ b ∷ bs) (among_right b (blocks_of k out) (b ∷ bs) (inl refl))) in
    let within : k < length rest = omega (arith, m.count) in
    let b_left : Among b (get_or rest k []) = subst (Among b) (sym is) (inl refl) in
    let out_first : (a : Block) (j : ℕ) (c : Block) → Among a out → j < length parts → Among c (get_or rest j []) → IsSooner a c = λ a j c ia lj ic. m.before a c j (among_contains a out ia) lj (among_contains c (get_or rest j []) ic) in
    let b_first : (j : ℕ) (c : Block) → j < length parts → Among c (get_or (set rest k bs) j []) → IsSooner b c = λ j c lj ic.
    elim (cases_eq j k) [
      | inl e ↦ (let Q : ℕ → Type 0 = λ n. Among c (get_or (set rest k bs) n []) in
          let in_bs : Among c bs = subst (Among c) (get_or-set_same rest k bs [] within) (subst Q e ic) in
          earlier b c (behind_later (blocks_of k out) b bs c here.rise in_bs))
      | inr ne ↦ (let in_rest : Among c (get_or rest j []) = subst (Among c) (get_or-set_other rest k j bs [] ne) ic in
          firsts (get_or rest j []) c j refl lj ne in_rest)
    ] in
    record {
      count = length-set rest k bs ∙ m.count;
      ascend = ascend_push out b m.ascend (λ a ia. out_first a k b ia lt b_left);
      federates = All-push (λ (x : Block). x.federate < length parts) out b m.federates (omega (arith, own));
      split = λ j lj. elim (cases_eq j k) [
        | inl e ↦ (let Q : ℕ → Type 0 = λ n. get_or parts n [] ≡ blocks_of n (out ++ b ∷ []) ++ get_or (set rest k bs) n [] in
            subst Q (sym e) (whole ∙ sym (append_assoc (blocks_of k out) (b ∷ []) bs)
            ∙ ap (λ xs. xs ++ bs) (sym (blocks_here k out b own)) ∙ ap (λ xs. blocks_of k (out ++ b ∷ []) ++ xs) (sym (get_or-set_same rest k bs [] within))))
        | inr ne ↦ m.split j lj ∙ ap (λ xs. xs ++ get_or rest j []) (sym (blocks_there j out b (λ q. ne (sym q ∙ own))))
            ∙ ap (λ xs. blocks_of j (out ++ b ∷ []) ++ xs) (sym (get_or-set_other rest k j bs [] ne))
      ];
      before = λ a c j ca lj cc'.
          let ic = contains_among c (get_or (set rest k bs) j []) cc' in
          elim (among_cases a out (b ∷ []) (contains_among a (out ++ b ∷ []) ca)) [
            | inl old ↦ out_first a j c old lj (was_left j c ic)
            | inr new ↦ elim new [
              | inl e ↦ (let Q : Block → Type 0 = λ x. IsSooner x c in subst Q e (b_first j c lj ic))
              | inr none ↦ elim none [ ]
            ]
          ];
    }
  where
    firsts : (xs : List Block) → (c : Block) (j : ℕ) → get_or rest j [] ≡ xs → j < length parts → j ≢ k → Among c xs → IsSooner b c
    firsts [] c j e lj ne a = elim a [ ]
    firsts (x ∷ xs) c j e lj ne (inl same) = let Q : Block → Type 0 = IsSooner b in subst Q same (first j x xs lj ne e)
    firsts (x ∷ xs) c j e lj ne (inr a) =
        let P : List Block → Type 0 = λ ys. AllPairs (λ (a b : Block). a.time < b.time) ys in
        let rise = subst P (m.split j lj ∙ ap (λ ys. blocks_of j out ++ ys) e) (are j lj).rise in
        let s : IsSooner b x = first j x xs lj ne e in
        earlier b c (omega (arith, no_later b x s, behind_later (blocks_of j out) x xs c rise a))

    was_left : (j : ℕ) (c : Block) → Among c (get_or (set rest k bs) j []) → Among c (get_or rest j [])
    was_left j c ic = elim (cases_eq j k) [
      | inl e ↦ (let Q : ℕ → Type 0 = λ n. Among c (get_or (set rest k bs) n []) in
          let R : ℕ → Type 0 = λ n. Among c (get_or rest n []) in
          let in_bs : Among c bs = subst (Among c) (get_or-set_same rest k bs [] (omega (arith, m.count))) (subst Q e ic) in
          subst R (sym e) (subst (Among c) (sym is) (inr in_bs)))
      | inr ne ↦ subst (Among c) (get_or-set_other rest k j bs [] ne) ic
    ]
