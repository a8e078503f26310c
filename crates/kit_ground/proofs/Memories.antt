-- The memory after a store.
use Rattle.std.proofs.Common.{Bool, true, false, ◌≡◌, ◌≢◌, ℕ, ◌&&◌, ◌==◌, if◌then◌else◌, refl, sym, ap, eqb-true, eq-eqb, true≢false}
use Rattle.kit_ground.specs.declared.address.Reg.{Reg}
use Rattle.kit_ground.specs.declared.address.Address.{Address}
use Rattle.kit_ground.specs.declared.address.Address.TheVariants.{Register, Stop, Mail, Count, Part}
use Rattle.kit_ground.specs.Memory.{Memory, same_address, with_word}

both : (c d : Bool) → (c && d) ≡ true → (c ≡ true) × (d ≡ true)
both true d e = (refl, e)
both false d e = absurd (true≢false (sym e))

-- what the test of addresses tells
pub same_tells : (x a : Address) → same_address x a ≡ true → x ≡ a
same_tells (Register r) (Register c) e =
    let t = both (r.owner == c.owner) (r.slot == c.slot) e in
    λ k. Register (record { owner = eqb-true r.owner c.owner t.0 k; slot = eqb-true r.slot c.slot t.1 k })
same_tells Stop Stop e = refl
same_tells (Mail j i w) (Mail l h v) e =
    let t = both (j == l && i == h) (w == v) e in
    let s = both (j == l) (i == h) t.0 in
    λ z. Mail (eqb-true j l s.0 z) (eqb-true i h s.1 z) (eqb-true w v t.1 z)
same_tells (Count i k) (Count h l) e = let t = both (i == h) (k == l) e in λ z. Count (eqb-true i h t.0 z) (eqb-true k l t.1 z)
same_tells (Part i k p) (Part h l q) e =
    let t = both (i == h && k == l) (p == q) e in
    let s = both (i == h) (k == l) t.0 in
    λ z. Part (eqb-true i h s.0 z) (eqb-true k l s.1 z) (eqb-true p q t.1 z)
same_tells x a e = absurd (true≢false (sym e))

equal : (i : ℕ) → (i == i) ≡ true
equal i = eq-eqb i i refl

pub same_here : (a : Address) → same_address a a ≡ true
same_here (Register r) = λ z. equal r.owner z && equal r.slot z
same_here Stop = refl
same_here (Mail j i w) = λ z. equal j z && equal i z && equal w z
same_here (Count i k) = λ z. equal i z && equal k z
same_here (Part i k p) = λ z. equal i z && equal k z && equal p z

-- the word that was stored
pub stored_here : (m : Memory) (a : Address) (v : ℕ) → with_word m a v a ≡ v
stored_here m a v = ap (λ (t : Bool). if t then v else m a) (same_here a)

else_by : (t : Bool) (v w : ℕ) → (t ≡ true → ⊥) → (if t then v else w) ≡ w
else_by true v w h = absurd (h refl)
else_by false v w h = refl

-- any other word is as before
pub stored_else : (m : Memory) (a x : Address) (v : ℕ) → x ≢ a → with_word m a v x ≡ m x
stored_else m a x v apart = else_by (same_address x a) v (m x) (λ e. apart (same_tells x a e))

same_by : (m : Memory) (a x : Address) (t : Bool) → (t ≡ true → x ≡ a) → (if t then m a else m x) ≡ m x
same_by m a x true h = ap m (sym (h refl))
same_by m a x false h = refl

-- storing what is there changes nothing
pub stored_same : (m : Memory) (a : Address) → with_word m a (m a) ≡ m
stored_same m a = λ k x. same_by m a x (same_address x a) (same_tells x a) k

-- what parts addresses of one kind
owner_of : Address → ℕ
owner_of (Register r) = r.owner
owner_of Stop = 0
owner_of (Mail j i w) = i
owner_of (Count i k) = i
owner_of (Part i k p) = i

second_of : Address → ℕ
second_of (Register r) = r.slot
second_of Stop = 0
second_of (Mail j i w) = j
second_of (Count i k) = k
second_of (Part i k p) = k

third_of : Address → ℕ
third_of (Mail j i w) = w
third_of (Part i k p) = p
third_of _ = 0

module _ (m : Memory) where
  pub register_else : (r c : Reg) (v : ℕ) → (c.owner ≡ r.owner → c.slot ≢ r.slot) → with_word m (Register r) v (Register c) ≡ m (Register c)
  unfolding owner_of second_of
  register_else r c v apart = stored_else m (Register r) (Register c) v (λ e. apart (ap owner_of e) (ap second_of e))

  pub mail_else : (j i w y x z v : ℕ) → (x ≡ i → y ≡ j → z ≢ w) → with_word m (Mail j i w) v (Mail y x z) ≡ m (Mail y x z)
  unfolding owner_of second_of third_of
  mail_else j i w y x z v apart = stored_else m (Mail j i w) (Mail y x z) v (λ e. apart (ap owner_of e) (ap second_of e) (ap third_of e))

  pub count_else : (i k x y v : ℕ) → (x ≡ i → y ≢ k) → with_word m (Count i k) v (Count x y) ≡ m (Count x y)
  unfolding owner_of second_of
  count_else i k x y v apart = stored_else m (Count i k) (Count x y) v (λ e. apart (ap owner_of e) (ap second_of e))

  pub part_else : (i k p x y q v : ℕ) → (x ≡ i → y ≡ k → q ≢ p) → with_word m (Part i k p) v (Part x y q) ≡ m (Part x y q)
  unfolding owner_of second_of third_of
  part_else i k p x y q v apart = stored_else m (Part i k p) (Part x y q) v (λ e. apart (ap owner_of e) (ap second_of e) (ap third_of e))
