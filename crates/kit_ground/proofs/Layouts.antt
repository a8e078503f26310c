-- Two different words stand at different places, and each stands on the floor.
use Rattle.std.proofs.Common.{◌≡◌, ◌≢◌, ◌⊎◌, inl, inr, ℕ, zero, suc, ◌+◌, ◌*◌, ◌/◌, ◌<◌, ◌≤◌, Bool, true, false, ◌&&◌, cond, List, length, replicate, set, nat_lt, refl, sym, ap, ◌∙◌, arith, true≢false}
use Rattle.std.proofs.lemmas.Nat.{mul-add-lt, div-mul-add}
use Rattle.std.proofs.lemmas.Bool.{ltb-true}
use Rattle.std.proofs.lemmas.List.{get_or-set_other, get_or-set_same}
use Rattle.std.specs.Prelude.{slice_index}
use Rattle.kit_ground.specs.declared.address.Address.{Address}
use Rattle.kit_ground.specs.declared.address.Address.TheVariants.{Register, Stop, Mail, Count, Part}
use Rattle.kit_ground.specs.Memory.{with_word, same_address}
use Rattle.kit_ground.specs.Layout.{size_of, is_there, index_of, mail_words, memory_of}
use Rattle.kit_ground.specs.Rules.{zero_memory}
use Rattle.kit_ground.proofs.Memories.{same_tells, same_here}

and_both : (x y : Bool) → (x && y) ≡ true → (x ≡ true) × (y ≡ true)
and_both true true e = (refl, refl)
and_both true false e = absurd (true≢false (sym e))
and_both false y e = absurd (true≢false (sym e))

both_below : (a n c k : ℕ) → (nat_lt a n && nat_lt c k) ≡ true → (a < n) × (c < k)
both_below a n c k e = let t = and_both (nat_lt a n) (nat_lt c k) e in (ltb-true a n t.0, ltb-true c k t.1)

-- the row and the column of a place
same_place : (a c x y w : ℕ) → c < w → y < w → a * w + c ≡ x * w + y → (a ≡ x) × (c ≡ y)
same_place a c x y w lc ly e =
    let rows : a ≡ x = sym (div-mul-add a w c lc) ∙ (ap (λ (z : ℕ). z / w) e ∙ div-mul-add x w y ly) in
    let same : a * w ≡ x * w = ap (λ (z : ℕ). z * w) rows in
    let u : ℕ = a * w in let v : ℕ = x * w in let s : u ≡ v = same in let t : u + c ≡ v + y = e in (rows, omega arith)

-- where the words of each kind lie: from the first place up to the second
abbrev from : ℕ → ℕ → Address → ℕ
from n b (Register r) = 0
from n b Stop = 13 * n
from n b (Mail j i w) = 13 * n + 1
from n b (Count i k) = 13 * n + 1 + mail_words b * (n * n)
from n b (Part i k p) = 13 * n + 1 + mail_words b * (n * n) + b * n

abbrev up_to : ℕ → ℕ → Address → ℕ
up_to n b (Register r) = 13 * n
up_to n b Stop = 13 * n + 1
up_to n b (Mail j i w) = 13 * n + 1 + mail_words b * (n * n)
up_to n b (Count i k) = 13 * n + 1 + mail_words b * (n * n) + b * n
up_to n b (Part i k p) = 13 * n + 1 + mail_words b * (n * n) + b * n + b * n * 2

between : (n b : ℕ) (a : Address) → is_there n b a ≡ true → (from n b a ≤ index_of n b a) × (index_of n b a < up_to n b a)
unfolding index_of
between n b (Register r) e = let t = both_below r.owner n r.slot 13 e in (omega arith, omega arith)
between n b Stop e = (omega arith, omega arith)
between n b (Mail j i w) e =
    let s = and_both (nat_lt j n && nat_lt i n) (nat_lt w (mail_words b)) e in let t = both_below j n i n s.0 in let l = mul-add-lt j n i n t.0 t.1 in
    let k = mul-add-lt (j * n + i) (mail_words b) w (n * n) l (ltb-true w (mail_words b) s.1) in (omega arith, omega arith)
between n b (Count i k) e = let t = both_below i n k b e in let l = mul-add-lt i b k n t.0 t.1 in (omega arith, omega arith)
between n b (Part i k p) e =
    let s = and_both (nat_lt i n && nat_lt k b) (nat_lt p 2) e in let t = both_below i n k b s.0 in let u = ltb-true p 2 s.1 in let l = mul-add-lt i b k n t.0 t.1 in (omega arith, omega arith)

-- each word stands on the floor
pub on_floor : (n b : ℕ) (a : Address) → is_there n b a ≡ true → index_of n b a < size_of n b
on_floor n b (Register r) e = let t = between n b (Register r) e in omega arith
on_floor n b Stop e = let t = between n b Stop e in omega arith
on_floor n b (Mail j i w) e = let t = between n b (Mail j i w) e in omega arith
on_floor n b (Count i k) e = let t = between n b (Count i k) e in omega arith
on_floor n b (Part i k p) e = let t = between n b (Part i k p) e in omega arith

-- words that stand at one place are one word
pub one_word : (n b : ℕ) (a c : Address) → is_there n b a ≡ true → is_there n b c ≡ true → index_of n b a ≡ index_of n b c → a ≡ c
unfolding index_of
one_word n b (Register r) (Register s) x y e =
    let t = both_below r.owner n r.slot 13 x in let u = both_below s.owner n s.slot 13 y in
    let owner : r.owner ≡ s.owner = omega arith in let slot : r.slot ≡ s.slot = omega arith in (λ i. Register (record { owner = owner i; slot = slot i }))
one_word n b Stop Stop x y e = refl
one_word n b (Mail j i w) (Mail l h v) x y e =
    let s = and_both (nat_lt j n && nat_lt i n) (nat_lt w (mail_words b)) x in let t = both_below j n i n s.0 in
    let r = and_both (nat_lt l n && nat_lt h n) (nat_lt v (mail_words b)) y in let u = both_below l n h n r.0 in
    let words = same_place (j * n + i) w (l * n + h) v (mail_words b) (ltb-true w (mail_words b) s.1) (ltb-true v (mail_words b) r.1) (omega arith) in
    let same = same_place j i l h n t.1 u.1 words.0 in (λ z. Mail (same.0 z) (same.1 z) (words.1 z))
one_word n b (Count i k) (Count h l) x y e =
    let t = both_below i n k b x in let u = both_below h n l b y in let same = same_place i k h l b t.1 u.1 (omega arith) in (λ z. Count (same.0 z) (same.1 z))
one_word n b (Part i k p) (Part h l q) x y e =
    let s = and_both (nat_lt i n && nat_lt k b) (nat_lt p 2) x in let t = both_below i n k b s.0 in
    let r = and_both (nat_lt h n && nat_lt l b) (nat_lt q 2) y in let u = both_below h n l b r.0 in
    let parts = same_place (i * b + k) p (h * b + l) q 2 (ltb-true p 2 s.1) (ltb-true q 2 r.1) (omega arith) in
    let same = same_place i k h l b t.1 u.1 parts.0 in (λ z. Part (same.0 z) (same.1 z) (parts.1 z))
one_word n b (Register r) Stop x y e = let u = between n b (Register r) x in let v = between n b Stop y in absurd (omega arith)
one_word n b (Register r) (Mail l h w) x y e = let u = between n b (Register r) x in let v = between n b (Mail l h w) y in absurd (omega arith)
one_word n b (Register r) (Count h l) x y e = let u = between n b (Register r) x in let v = between n b (Count h l) y in absurd (omega arith)
one_word n b (Register r) (Part h l q) x y e = let u = between n b (Register r) x in let v = between n b (Part h l q) y in absurd (omega arith)
one_word n b Stop (Register s) x y e = let u = between n b Stop x in let v = between n b (Register s) y in absurd (omega arith)
one_word n b Stop (Mail l h w) x y e = let u = between n b Stop x in let v = between n b (Mail l h w) y in absurd (omega arith)
one_word n b Stop (Count h l) x y e = let u = between n b Stop x in let v = between n b (Count h l) y in absurd (omega arith)
one_word n b Stop (Part h l q) x y e = let u = between n b Stop x in let v = between n b (Part h l q) y in absurd (omega arith)
one_word n b (Mail j i w) (Register s) x y e = let u = between n b (Mail j i w) x in let v = between n b (Register s) y in absurd (omega arith)
one_word n b (Mail j i w) Stop x y e = let u = between n b (Mail j i w) x in let v = between n b Stop y in absurd (omega arith)
one_word n b (Mail j i w) (Count h l) x y e = let u = between n b (Mail j i w) x in let v = between n b (Count h l) y in absurd (omega arith)
one_word n b (Mail j i w) (Part h l q) x y e = let u = between n b (Mail j i w) x in let v = between n b (Part h l q) y in absurd (omega arith)
one_word n b (Count i k) (Register s) x y e = let u = between n b (Count i k) x in let v = between n b (Register s) y in absurd (omega arith)
one_word n b (Count i k) Stop x y e = let u = between n b (Count i k) x in let v = between n b Stop y in absurd (omega arith)
one_word n b (Count i k) (Mail l h w) x y e = let u = between n b (Count i k) x in let v = between n b (Mail l h w) y in absurd (omega arith)
one_word n b (Count i k) (Part h l q) x y e = let u = between n b (Count i k) x in let v = between n b (Part h l q) y in absurd (omega arith)
one_word n b (Part i k p) (Register s) x y e = let u = between n b (Part i k p) x in let v = between n b (Register s) y in absurd (omega arith)
one_word n b (Part i k p) Stop x y e = let u = between n b (Part i k p) x in let v = between n b Stop y in absurd (omega arith)
one_word n b (Part i k p) (Mail l h w) x y e = let u = between n b (Part i k p) x in let v = between n b (Mail l h w) y in absurd (omega arith)
one_word n b (Part i k p) (Count h l) x y e = let u = between n b (Part i k p) x in let v = between n b (Count h l) y in absurd (omega arith)

either_way : (t : Bool) → (t ≡ true) ⊎ (t ≡ false)
either_way true = inl refl
either_way false = inr refl

-- a word that is stored in the list is stored in the memory
module _ (n b : ℕ) (words : List ℕ) (a : Address) (v : ℕ) (there : is_there n b a ≡ true) (sized : length words ≡ size_of n b) where
  abbrev now : List ℕ
  now = set words (index_of n b a) v

  here : memory_of n b now a ≡ v
  here = ap (λ (t : Bool). cond t (slice_index now (index_of n b a)) 0) there ∙ get_or-set_same words (index_of n b a) v 0 (let l = on_floor n b a there in omega arith)

  elsewhere : (x : Address) → x ≢ a → memory_of n b now x ≡ memory_of n b words x
  elsewhere x apart = elim (either_way (is_there n b x)) [
    | inl e ↦ ap (λ (t : Bool). cond t (slice_index now (index_of n b x)) 0) e
        ∙ (get_or-set_other words (index_of n b a) (index_of n b x) v 0 (λ same. apart (one_word n b x a e there same)) ∙ sym (ap (λ (t : Bool). cond t (slice_index words (index_of n b x)) 0) e))
    | inr e ↦ ap (λ (t : Bool). cond t (slice_index now (index_of n b x)) 0) e ∙ sym (ap (λ (t : Bool). cond t (slice_index words (index_of n b x)) 0) e)
  ]

  each : (x : Address) → memory_of n b now x ≡ with_word (memory_of n b words) a v x
  each x = elim (either_way (same_address x a)) [
    | inl e ↦ ap (memory_of n b now) (same_tells x a e) ∙ (here ∙ sym (ap (λ (t : Bool). cond t v (memory_of n b words x)) e))
    | inr e ↦ elsewhere x (λ same. true≢false (sym (same_here a) ∙ (ap (λ (y : Address). same_address y a) (sym same) ∙ e))) ∙ sym (ap (λ (t : Bool). cond t v (memory_of n b words x)) e)
  ]

  pub memory_set : memory_of n b now ≡ with_word (memory_of n b words) a v
  memory_set i x = each x i

zeros : (n k : ℕ) → slice_index (replicate n 0) k ≡ 0
zeros zero k = refl
zeros (suc n) zero = refl
zeros (suc n) (suc k) = zeros n k

no_word : (t : Bool) (n k : ℕ) → cond t (slice_index (replicate n 0) k) 0 ≡ 0
no_word true n k = zeros n k
no_word false n k = refl

-- words of 0 are the memory at first
pub memory_blank : (n b : ℕ) → memory_of n b (replicate (size_of n b) 0) ≡ zero_memory
memory_blank n b i x = no_word (is_there n b x) (size_of n b) (index_of n b x) i
