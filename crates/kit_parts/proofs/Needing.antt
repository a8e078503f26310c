-- What a federate has outstanding after any of its blocks.
use Rattle.std.proofs.Common.{◌≡◌, ℕ, zero, suc, inl, inr, ◌+◌, ◌*◌, ◌<◌, ◌≤◌, Bool, true, false, cond, ◌&&◌, nat_lt, List, [], ◌∷◌, ◌++◌, length, take, drop, filter, Some, arith, refl, sym, ap, ◌∙◌, subst, length-append}
use Rattle.std.specs.List.{Contains, count_by}
use Rattle.std.proofs.lemmas.Bool.{cases_Bool}
use Rattle.std.proofs.lemmas.List.{append_assoc}
use Rattle.std.proofs.lemmas.List.Elements.{All-contains}
use Rattle.std.proofs.lemmas.List.Sums.{length-filter}
use Rattle.kit_base.specs.declared.message.Message.{Message}
use Rattle.kit_rules.specs.Parts.{Parts}
use Rattle.kit_rules.specs.Federation.{IsFederation}
use Rattle.kit_rules.specs.Delivery.{is_transported}
use Rattle.kit_rules.specs.Need.{is_outstanding, outstanding, need_of}
use Rattle.kit_rules.specs.Simulation.{Seat, Block, World, seat_at, next_grant, world_at_start, world_after_grant, world_after_pair, after_grants}
use Rattle.kit_laws.specs.Laws.{IsOwnMoment}
use Rattle.kit_laws.proofs.Needs.{need_is_greatest_law}
use Rattle.kit_parts.specs.Fronts.{seat_after, blocks_of, part, IsFront, is_by}
use Rattle.kit_parts.specs.OwnLaws.{NeedCovers, NeedHolds}
use Rattle.kit_parts.proofs.Among.{Among, among_left, among_right, among_cases, among_filter, contains_among, among_contains, Distinct, pairs_distinct}
use Rattle.kit_parts.proofs.Ways.{OnWay, started_way, granted_way, next_block, blocks_here}
use Rattle.kit_parts.proofs.Sent.{Comes, comes, front_next, one_more}
use Rattle.kit_parts.proofs.Whole.{front_split}
use Rattle.kit_base.proofs.Counting.{count_cons, one_false, one_if}

-- what is outstanding is among own sends
count_own : (p : Parts) (i now : ℕ) (ms : List Message) → count_by (is_outstanding p i now) ms ≡ count_by (is_outstanding p i now) (filter (is_by i) ms)
count_own p i now [] = refl
count_own p i now (m ∷ ms) =
    let test = is_outstanding p i now in
    elim (cases_Bool (is_by i m)) [
      | inl own ↦ (let P : Bool → Type 0 = λ b. count_by test (m ∷ ms) ≡ count_by test (cond b (m ∷ filter (is_by i) ms) (filter (is_by i) ms)) in
          subst P (sym own) (count_cons test m ms ∙ ap (λ (n : ℕ). one_if (test m) + n) (count_own p i now ms) ∙ sym (count_cons test m (filter (is_by i) ms))))
      | inr other ↦ (let P : Bool → Type 0 = λ b. count_by test (m ∷ ms) ≡ count_by test (cond b (m ∷ filter (is_by i) ms) (filter (is_by i) ms)) in
          let no : test m ≡ false = ap (λ b. b && is_transported p m && nat_lt now m.time) other in
          subst P (sym other) (omega (arith, count_cons test m ms, one_false (test m) no, count_own p i now ms)))
    ]

outstanding_is : (p : Parts) (last : ℕ × ℕ) (w : World) (i : ℕ) → OnWay p last w → i < length p.federates → outstanding p i w ≡ count_by (is_outstanding p i (seat_after p i (blocks_of i w.blocks)).now) (seat_after p i (blocks_of i w.blocks)).state.sends
outstanding_is p last w i way lt =
    count_own p i (seat_at w i).now w.messages ∙ ap (count_by (is_outstanding p i (seat_at w i).now)) (way.own i)
    ∙ ap (λ (s : Seat). count_by (is_outstanding p i s.now) s.state.sends) (way.seats i lt)

-- a front of so many blocks is what stands right after one of the federate's grants
pub last_split : {X : Type 0} (xs : List X) (k : ℕ) → length xs ≡ suc k → (ys : List X) × (y : X) × (xs ≡ ys ++ y ∷ []) × (length ys ≡ k)
last_split [] k e = absurd (omega arith)
last_split (x ∷ []) k e = ([], x, refl, omega arith)
last_split (x ∷ z ∷ zs) zero e = absurd (omega arith)
last_split (x ∷ z ∷ zs) (suc k) e = let r = last_split (z ∷ zs) k (omega arith) in (x ∷ r.0, r.1, ap (λ ws. x ∷ ws) r.2, omega (arith, r.3))

pub front_shorter : (p : Parts) (i : ℕ) (xs ys : List Block) → IsFront p i (xs ++ ys) → IsFront p i xs
front_shorter p i xs ys front =
    let whole : part p i ≡ (xs ++ ys) ++ drop (length (xs ++ ys)) (part p i) = front_split p i (xs ++ ys) front in
    sym (ap (take (length xs)) (whole ∙ append_assoc xs ys (drop (length (xs ++ ys)) (part p i))) ∙ first xs (ys ++ drop (length (xs ++ ys)) (part p i)))
  where
    first : {X : Type 0} (xs ys : List X) → take (length xs) (xs ++ ys) ≡ xs
    first [] ys = refl
    first (x ∷ xs) ys = ap (λ zs. x ∷ zs) (first xs ys)

pub front_length : (p : Parts) (i : ℕ) (done : List Block) → IsFront p i done → length done ≤ length (part p i)
front_length p i done front = omega (arith, ap length (front_split p i done front), length-append done (drop (length done) (part p i)))

pub same_fronts : (p : Parts) (i : ℕ) (xs ys : List Block) → IsFront p i xs → IsFront p i ys → length xs ≡ length ys → xs ≡ ys
same_fronts p i xs ys fx fy e = fx ∙ ap (λ (n : ℕ). take n (part p i)) e ∙ sym fy

-- what is outstanding in a world right after a grant of the federate
need_at : (p : Parts) (i n : ℕ) (last : ℕ × ℕ) (w : World) → i < length p.federates → OnWay p last w → after_grants p n (world_at_start p) ≡ w → n ≤ length p.federates * p.end → IsOwnMoment p i n
    → count_by (is_outstanding p i (seat_after p i (blocks_of i w.blocks)).now) (seat_after p i (blocks_of i w.blocks)).state.sends ≤ need_of p i
need_at p i n last w lt way at le own = omega (arith, (need_is_greatest_law p i).none_more n le own, ap (outstanding p i) at, outstanding_is p last w i way lt)

-- what is outstanding after a block that comes
need_next : (p : Parts) (i : ℕ) (before : List Block) → IsFederation p → i < length p.federates → (c : Comes p i before) → let done = before ++ next_block p c.world (c.due, i) ∷ [] in
    count_by (is_outstanding p i (seat_after p i done).now) (seat_after p i done).state.sends ≤ need_of p i
need_next p i before f lt c =
    let g : ℕ × ℕ = (c.due, i) in
    let v = world_after_grant p c.world g in
    let way = granted_way p c.last c.world g f c.way c.next in
    let next : next_grant p (after_grants p c.index (world_at_start p)) ≡ Some g = ap (next_grant p) c.at ∙ c.next in
    let after : after_grants p (c.index + 1) (world_at_start p) ≡ v = one_more p c.index c.world c.at ∙ ap (world_after_pair p c.world) c.next in
    let same : blocks_of i v.blocks ≡ before ++ next_block p c.world g ∷ [] = blocks_here i c.world.blocks (next_block p c.world g) refl ∙ ap (λ xs. xs ++ next_block p c.world g ∷ []) c.before in
    let P : List Block → Type 0 = λ bs. count_by (is_outstanding p i (seat_after p i bs).now) (seat_after p i bs).state.sends ≤ need_of p i in
    subst P same (need_at p i (c.index + 1) g v lt way after (omega (arith, c.within)) (inr (c.index, c.due, refl, next)))

need_from : (p : Parts) (i k : ℕ) (done : List Block) → IsFederation p → i < length p.federates → IsFront p i done → length done ≡ k
    → count_by (is_outstanding p i (seat_after p i done).now) (seat_after p i done).state.sends ≤ need_of p i
need_from p i zero done f lt front e =
    let none : done ≡ [] = empty done e in
    let P : List Block → Type 0 = λ bs. count_by (is_outstanding p i (seat_after p i bs).now) (seat_after p i bs).state.sends ≤ need_of p i in
    subst P (sym none) (need_at p i 0 (0, 0) (world_at_start p) lt (started_way p f) refl (omega arith) (inl refl))
  where
    empty : {X : Type 0} (xs : List X) → length xs ≡ 0 → xs ≡ []
    empty [] h = refl
    empty (x ∷ xs) h = absurd (omega arith)
need_from p i (suc k) done f lt front e =
    let r = last_split done k e in
    let Q : List Block → Type 0 = IsFront p i in
    let before : IsFront p i r.0 = front_shorter p i r.0 (r.1 ∷ []) (subst Q r.2 front) in
    through r.0 (comes p i r.0 f before (omega (arith, front_length p i done front, r.3))) (omega (arith, r.3, e))
  where
    through : (xs : List Block) → Comes p i xs → length xs + 1 ≡ length done → count_by (is_outstanding p i (seat_after p i done).now) (seat_after p i done).state.sends ≤ need_of p i
    through xs c e =
        let b = next_block p c.world (c.due, i) in
        let same : xs ++ b ∷ [] ≡ done = same_fronts p i (xs ++ b ∷ []) done (front_next p i xs c) front (omega (arith, length-append xs (b ∷ []))) in
        let P : List Block → Type 0 = λ bs. count_by (is_outstanding p i (seat_after p i bs).now) (seat_after p i bs).state.sends ≤ need_of p i in
        subst P same (need_next p i xs f lt c)

pub need_covers_law : NeedCovers
need_covers_law p f i lt done front = need_from p i (length done) done f lt front refl

-- elements that differ are at most as many as those that they are among
split_at : {X : Type 0} (x : X) (xs : List X) → Among x xs → (a : List X) × (b : List X) × (xs ≡ a ++ x ∷ b)
split_at x [] h = elim h [ ]
split_at {X} x (y ∷ ys) (inl e) = let P : X → Type 0 = λ v. y ∷ ys ≡ v ∷ ys in ([], ys, subst P e refl)
split_at x (y ∷ ys) (inr h) = let r = split_at x ys h in (y ∷ r.0, r.1, ap (λ zs. y ∷ zs) r.2)

pub at_most : {X : Type 0} (held xs : List X) → Distinct held → ((x : X) → Among x held → Among x xs) → length held ≤ length xs
at_most [] xs d in_xs = omega arith
at_most {X} (h ∷ hs) xs d in_xs =
    let s = split_at h xs (in_xs h (inl refl)) in
    let rest = at_most hs (s.0 ++ s.1) d.1 (λ x a.
    let P : List X → Type 0 = Among x in
    elim (among_cases x s.0 (h ∷ s.1) (subst P s.2 (in_xs x (inr a)))) [
      | inl front ↦ among_left x s.0 s.1 front
      | inr back ↦ elim back [
        | inl e ↦ absurd (let Q : X → Type 0 = λ v. Among v hs in d.0 (subst Q (sym e) a))
        | inr behind ↦ among_right x s.0 s.1 behind
      ]
    ]) in
    omega (arith, rest, ap length s.2, length-append s.0 (h ∷ s.1), length-append s.0 s.1)

pub need_holds_law : NeedHolds
need_holds_law p f i lt done front held differ all =
    let s = seat_after p i done in
    let test = is_outstanding p i s.now in
    omega (
      arith,
      need_covers_law p f i lt done front,
      length-filter test s.state.sends,
      at_most held (filter test s.state.sends) (pairs_distinct held differ) (λ m a.
          let h = All-contains (λ (m : Message). Contains s.state.sends m × (test m ≡ true)) held m all (among_contains m held a) in
          among_filter test m s.state.sends (contains_among m s.state.sends h.0) h.1),
    )
