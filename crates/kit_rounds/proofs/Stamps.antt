-- Counts of equal stamps, and what is left where some are taken out.
use Rattle.std.proofs.Common.{◌≡◌, ℕ, ◌+◌, ◌<◌, ◌≤◌, Bool, true, false, cond, ◌==◌, ◌&&◌, List, [], ◌∷◌, map, arith, refl, ap, ◌∙◌, eq-eqb}
use Rattle.std.specs.List.{count_by, filter}
use Rattle.std.proofs.lemmas.Bool.{eqb-true, and_parts}
use Rattle.std.proofs.lemmas.List.Sums.{sum_by-cons}
use Rattle.kit_rounds.specs.Ledgers.{Stamp, Copy}
use Rattle.kit_rounds.specs.Channels.{same_stamp, is_copy, stamps_with, take_out, take_out_all}

-- what a test adds to a count
abbrev pub one_if : Bool → ℕ
one_if b = cond b 1 0

-- what a stamp adds to the count of those that pass
abbrev pub weight : (Stamp → Bool) → Stamp → ℕ
weight p s = cond (p s) 1 0

pub stamps_are : (s t : Stamp) → same_stamp s t ≡ true → s ≡ t
stamps_are s t e =
    let parts = and_parts (s.colour == t.colour) (s.time == t.time) e in
    let colour : s.colour ≡ t.colour = eqb-true _ _ parts.0 in
    let time : s.time ≡ t.time = eqb-true _ _ parts.1 in
    ap (λ c. record s { colour = c }) colour ∙ ap (λ x. record t { time = x }) time

taken_step : (p : Stamp → Bool) (s t : Stamp) (same : ℕ) (ts rest : List Stamp) (b : Bool)
    → (b ≡ true → t ≡ s) → (0 < same → count_by p ts ≡ weight p s + count_by p rest) → 0 < cond b 1 0 + same
    → weight p t + count_by p ts ≡ weight p s + count_by p (cond b ts (t ∷ rest))
taken_step p s t same ts rest true is more h = ap (λ x. weight p x + count_by p ts) (is refl)
taken_step p s t same ts rest false is more h = omega (arith, more (omega arith), sum_by-cons (weight p) t rest)

-- one stamp is taken out
pub count_taken : (p : Stamp → Bool) (s : Stamp) (ts : List Stamp) → 0 < count_by (λ t. same_stamp t s) ts
    → count_by p ts ≡ weight p s + count_by p (take_out s ts)
count_taken p s [] h = absurd (omega arith)
count_taken p s (t ∷ ts) h =
    sum_by-cons (weight p) t ts
    ∙ taken_step p s t (count_by (λ t. same_stamp t s) ts) ts (take_out s ts) (same_stamp t s) (stamps_are t s) (count_taken p s ts)
    (omega (arith, sum_by-cons (weight (λ t. same_stamp t s)) t ts))

-- some are taken out
pub count_all_taken : (p : Stamp → Bool) (ss ts : List Stamp)
    → ((s : Stamp) → count_by (λ t. same_stamp t s) ss ≤ count_by (λ t. same_stamp t s) ts)
    → count_by p ts ≡ count_by p ss + count_by p (take_out_all ss ts)
count_all_taken p [] ts h = omega arith
count_all_taken p (s ∷ ss) ts h =
    let itself : same_stamp s s ≡ true = ap (λ b. b && (s.time == s.time)) (eq-eqb s.colour s.colour refl) ∙ eq-eqb s.time s.time refl in
    let one : weight (λ t. same_stamp t s) s ≡ 1 = ap one_if itself in
    let there : 0 < count_by (λ t. same_stamp t s) ts = omega (arith, h s, sum_by-cons (weight (λ t. same_stamp t s)) s ss) in
    let rest : (u : Stamp) → count_by (λ t. same_stamp t u) ss ≤ count_by (λ t. same_stamp t u) (take_out s ts) =
    λ u. omega (arith, h u, sum_by-cons (weight (λ t. same_stamp t u)) s ss, count_taken (λ t. same_stamp t u) s ts there) in
    omega (arith, sum_by-cons (weight p) s ss, count_taken p s ts there, count_all_taken p ss (take_out s ts) rest)

with_step : (p : Stamp → Bool) (c : Copy) (passing : ℕ) (rest : List Copy) (b : Bool) → passing ≡ count_by p (map (λ (x : Copy). x.stamp) rest)
    → cond (b && p c.stamp) 1 0 + passing ≡ count_by p (map (λ (x : Copy). x.stamp) (cond b (c ∷ rest) rest))
with_step p c passing rest true e = omega (arith, sum_by-cons (weight p) c.stamp (map (λ (x : Copy). x.stamp) rest))
with_step p c passing rest false e = omega arith

-- copies of one peer are counted by their stamps
pub count_with : (p : Stamp → Bool) (peer : ℕ) (cs : List Copy) → count_by (λ c. c.peer == peer && p c.stamp) cs ≡ count_by p (stamps_with peer cs)
count_with p peer [] = refl
count_with p peer (c ∷ cs) =
    sum_by-cons (λ (x : Copy). cond (x.peer == peer && p x.stamp) 1 0) c cs
    ∙ with_step p c (count_by (λ (x : Copy). x.peer == peer && p x.stamp) cs) (filter (λ (x : Copy). x.peer == peer) cs) (c.peer == peer) (count_with p peer cs)

-- a copy that passes has this stamp, and this peer
pub copy_stamp : (peer : ℕ) (s : Stamp) (c : Copy) → is_copy peer s c ≡ true → c.stamp ≡ s
copy_stamp peer s c e = stamps_are c.stamp s (and_parts (c.peer == peer) (same_stamp c.stamp s) e).1

pub copy_peer : (peer : ℕ) (s : Stamp) (c : Copy) → is_copy peer s c ≡ true → c.peer ≡ peer
copy_peer peer s c e = eqb-true _ _ (and_parts (c.peer == peer) (same_stamp c.stamp s) e).0
