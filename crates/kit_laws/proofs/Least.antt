-- The least pair, and what it says of each federate that waits.
use Rattle.std.proofs.Common.{◌≡◌, ℕ, zero, suc, ◌+◌, ◌*◌, ◌<◌, ◌≤◌, ◌⊎◌, inl, inr, true, false, cond, ◌&&◌, ◌||◌, List, [], ◌∷◌, length, drop, get_or, Option, Some, None, IfSome, nat_lt, nat_eq, arith, refl, sym, subst, ap, ◌∙◌}
use Rattle.std.specs.List.{AllByRecursion}
use Rattle.std.proofs.lemmas.Bool.{lt-ltb, le-ltb, cases_lt}
use Rattle.std.proofs.lemmas.Bool.Decides.{eqb_tells}
use Rattle.kit_base.specs.declared.message.Message.{Message}
use Rattle.kit_rules.specs.Parts.{Parts}
use Rattle.kit_rules.specs.Simulation.{Seat, seat_due, waiting_from, is_sooner, sooner_pair, least_pair, nobody_seated}

ltb_tells : (a b : ℕ) → ((nat_lt a b ≡ true) × (a < b)) ⊎ ((nat_lt a b ≡ false) × (b ≤ a))
ltb_tells a b = elim (cases_lt a b) [ inl lt ↦ inl (lt-ltb a b lt, lt) | inr ge ↦ inr (le-ltb a b ge, ge) ]

-- pairs of federates below 16 as numbers in their order
abbrev pub Rank : ℕ × ℕ → ℕ
Rank g = 16 * g.0 + g.1

pub sooner_rank : (b a : ℕ × ℕ) → b.1 < 16 → a.1 < 16 → ((is_sooner b a ≡ true) × (Rank b < Rank a)) ⊎ ((is_sooner b a ≡ false) × (Rank a ≤ Rank b))
sooner_rank b a hb ha =
    elim (ltb_tells b.0 a.0) [
      | inl lt ↦ inl (ap (λ t. t || (nat_eq b.0 a.0 && nat_lt b.1 a.1)) lt.0, (let l : b.0 < a.0 = lt.1 in omega arith))
      | inr ge ↦ elim (eqb_tells b.0 a.0) [
        | inl eq ↦ elim (ltb_tells b.1 a.1) [
          | inl lt ↦ inl (ap (λ t. t || (nat_eq b.0 a.0 && nat_lt b.1 a.1)) ge.0 ∙ ap (λ t. t && nat_lt b.1 a.1) eq.0 ∙ lt.0, (let e : b.0 ≡ a.0 = eq.1 in let l : b.1 < a.1 = lt.1 in omega arith))
          | inr le ↦ inr (ap (λ t. t || (nat_eq b.0 a.0 && nat_lt b.1 a.1)) ge.0 ∙ ap (λ t. t && nat_lt b.1 a.1) eq.0 ∙ le.0, (let e : b.0 ≡ a.0 = eq.1 in let l : a.1 ≤ b.1 = le.1 in omega arith))
        ]
        | inr ne ↦ inr (ap (λ t. t || (nat_eq b.0 a.0 && nat_lt b.1 a.1)) ge.0 ∙ ap (λ t. t && nat_lt b.1 a.1) ne.0, (let l : a.0 ≤ b.0 = ge.1 in let n : b.0 ≡ a.0 → ⊥ = ne.1 in omega arith))
      ]
    ]

abbrev pub Few : ℕ × ℕ → Type 0
Few g = g.1 < 16

sooner_few : (best : Option (ℕ × ℕ)) (x : ℕ × ℕ) → IfSome best Few → Few x → Few (sooner_pair best x)
sooner_few None x b h = h
sooner_few (Some a) x b h = elim (is_sooner x a) as (λ t. Few (cond t x a)) [ true ↦ h | false ↦ b ]

sooner_least : (best : Option (ℕ × ℕ)) (x : ℕ × ℕ) → IfSome best Few → Few x → (Rank (sooner_pair best x) ≤ Rank x) × IfSome best (λ a. Rank (sooner_pair best x) ≤ Rank a)
sooner_least None x b h = (omega arith, tt)
sooner_least (Some a) x b h =
    let fa : a.1 < 16 = b in
    elim (sooner_rank x a h fa) [
      | inl lt ↦ rw lt.0 ((let l : Rank x ≤ Rank x = omega arith in l), (let l : Rank x < Rank a = lt.1 in let k : Rank x ≤ Rank a = omega arith in k))
      | inr ge ↦ rw ge.0 ((let l : Rank a ≤ Rank x = ge.1 in l), (let k : Rank a ≤ Rank a = omega arith in k))
    ]

-- nothing comes before the least
least_below : (best : Option (ℕ × ℕ)) (xs : List (ℕ × ℕ)) (g : ℕ × ℕ) → IfSome best Few → AllByRecursion Few xs → least_pair best xs ≡ Some g
    → IfSome best (λ a. Rank g ≤ Rank a) × AllByRecursion (λ x. Rank g ≤ Rank x) xs
least_below best [] g b h e = (let P : Option (ℕ × ℕ) → Type 0 = λ o. IfSome o (λ a. Rank g ≤ Rank a) in let le : Rank g ≤ Rank g = omega arith in subst P (sym e) le, tt)
least_below best (x ∷ xs) g b h e =
    let rest = least_below (Some (sooner_pair best x)) xs g (sooner_few best x b h.0) h.1 e in
    let here : Rank g ≤ Rank (sooner_pair best x) = rest.0 in
    let s = sooner_least best x b h.0 in
    (weaker best s.1 here, ((let le : Rank (sooner_pair best x) ≤ Rank x = s.0 in omega arith), rest.1))
  where
    weaker : {n m : ℕ} (o : Option (ℕ × ℕ)) → IfSome o (λ a. m ≤ Rank a) → n ≤ m → IfSome o (λ a. n ≤ Rank a)
    weaker None h le = tt
    weaker {n} {m} (Some a) h le = let l : m ≤ Rank a = h in let k : n ≤ Rank a = omega arith in k

pub least_keeps : (P : ℕ × ℕ → Type 0) (best : Option (ℕ × ℕ)) (xs : List (ℕ × ℕ)) → IfSome best P → AllByRecursion P xs → IfSome (least_pair best xs) P
least_keeps P best [] b h = b
least_keeps P best (x ∷ xs) b h = least_keeps P (Some (sooner_pair best x)) xs (kept P best x b h.0) h.1
  where
    kept : (P : ℕ × ℕ → Type 0) (best : Option (ℕ × ℕ)) (x : ℕ × ℕ) → IfSome best P → P x → P (sooner_pair best x)
    kept P None x b h = h
    kept P (Some a) x b h = elim (is_sooner x a) as (λ t. P (cond t x a)) [ true ↦ h | false ↦ b ]

-- a pair that stands for a federate below the end
pub record Stands (p : Parts) (sent : List Message) (seats : List Seat) (g : ℕ × ℕ) : Type 0 where
  pub within : g.1 < length seats
  pub below : (get_or seats g.1 nobody_seated).now < p.end
  pub due : g.0 ≡ seat_due p sent g.1 (get_or seats g.1 nobody_seated)

head_at : {X : Type 0} (seats : List X) (i : ℕ) (s : X) (ss : List X) (d : X) → s ∷ ss ≡ drop i seats → (i < length seats) × (get_or seats i d ≡ s) × (ss ≡ drop (i + 1) seats)
head_at [] zero s ss d e = absurd (cc)
head_at [] (suc i) s ss d e = absurd (cc)
head_at (x ∷ xs) zero s ss d e = (omega arith, cc, cc)
head_at (x ∷ xs) (suc i) s ss d e = let r = head_at xs i s ss d e in (omega (arith, r.0), r.1, r.2 ∙ ap (λ n. drop n (x ∷ xs)) (let k : suc (i + 1) ≡ suc i + 1 = omega arith in k))

waiting_stands : (p : Parts) (sent : List Message) (seats : List Seat) (i : ℕ) (ss : List Seat) → ss ≡ drop i seats → AllByRecursion (Stands p sent seats) (waiting_from p sent i ss)
waiting_stands p sent seats i [] e = tt
waiting_stands p sent seats i (s ∷ ss) e =
    let h = head_at seats i s ss nobody_seated e in
    let rest : AllByRecursion (Stands p sent seats) (waiting_from p sent (i + 1) ss) = waiting_stands p sent seats (i + 1) ss h.2 in
    elim (ltb_tells s.now p.end) [
      | inl lt ↦ rw lt.0 (record { within = h.0; below = (rw h.1 lt.1); due = ap (seat_due p sent i) (sym h.1) }, rest)
      | inr ge ↦ rw ge.0 rest
    ]

pub waiting_covers : (P : ℕ × ℕ → Type 0) (p : Parts) (sent : List Message) (i : ℕ) (ss : List Seat) → AllByRecursion P (waiting_from p sent i ss)
    → (k : ℕ) → k < length ss → (get_or ss k nobody_seated).now < p.end → P (seat_due p sent (i + k) (get_or ss k nobody_seated), i + k)
waiting_covers P p sent i [] h k lt below = absurd (omega arith)
waiting_covers P p sent i (s ∷ ss) h zero lt below =
    let Q : ℕ → Type 0 = λ n. P (seat_due p sent n s, n) in
    let t : nat_lt s.now p.end ≡ true = lt-ltb s.now p.end below in
    let here : P (seat_due p sent i s, i) = (rw t at h).0 in
    subst Q (let e : i ≡ i + 0 = omega arith in e) here
waiting_covers P p sent i (s ∷ ss) h (suc k) lt below =
    let Q : ℕ → Type 0 = λ n. P (seat_due p sent n (get_or ss k nobody_seated), n) in
    let rest : AllByRecursion P (waiting_from p sent (i + 1) ss) = elim (nat_lt s.now p.end) as (λ b. AllByRecursion P (cond b ((seat_due p sent i s, i) ∷ waiting_from p sent (i + 1) ss) (waiting_from p sent (i + 1) ss)) → AllByRecursion P (waiting_from p sent (i + 1) ss)) [ true ↦ λ a. a.1 | false ↦ λ a. a ] h in
    subst Q (let e : (i + 1) + k ≡ i + suc k = omega arith in e) (waiting_covers P p sent (i + 1) ss rest k (omega arith) below)

-- the next grant is of a federate below the end, at its due time
pub next_stands : (p : Parts) (sent : List Message) (seats : List Seat) (g : ℕ × ℕ) → least_pair None (waiting_from p sent 0 seats) ≡ Some g → Stands p sent seats g
next_stands p sent seats g e =
    let P : Option (ℕ × ℕ) → Type 0 = λ o. IfSome o (Stands p sent seats) in
    subst P e (least_keeps (Stands p sent seats) None (waiting_from p sent 0 seats) tt (waiting_stands p sent seats 0 seats refl))

stands_few : (p : Parts) (sent : List Message) (seats : List Seat) (xs : List (ℕ × ℕ)) → length seats ≤ 16 → AllByRecursion (Stands p sent seats) xs → AllByRecursion Few xs
stands_few p sent seats [] le h = tt
stands_few p sent seats (x ∷ xs) le h = (omega (arith, h.0.within), stands_few p sent seats xs le h.1)

-- and no other comes before it
pub next_least : (p : Parts) (sent : List Message) (seats : List Seat) (g : ℕ × ℕ) → length seats ≤ 16 → least_pair None (waiting_from p sent 0 seats) ≡ Some g
    → (k : ℕ) → k < length seats → (get_or seats k nobody_seated).now < p.end → Rank g ≤ Rank (seat_due p sent k (get_or seats k nobody_seated), k)
next_least p sent seats g few e k lt below =
    let all = (least_below None (waiting_from p sent 0 seats) g tt (stands_few p sent seats (waiting_from p sent 0 seats) few (waiting_stands p sent seats 0 seats refl)) e).1 in
    let Q : ℕ → Type 0 = λ n. Rank g ≤ Rank (seat_due p sent n (get_or seats k nobody_seated), n) in
    subst Q (let z : 0 + k ≡ k = omega arith in z) (waiting_covers (λ x. Rank g ≤ Rank x) p sent 0 seats all k lt below)
