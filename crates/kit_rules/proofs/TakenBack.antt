-- Own messages by their numbers, and the marks of those that were taken back.
use Rattle.std.proofs.Common.{◌≡◌, ℕ, zero, suc, Bool, true, false, cond, ◌&&◌, ◌||◌, not, nat_eq, nat_le, ◌+◌, ◌-◌, ◌<◌, ◌≤◌, List, [], ◌∷◌, length, get_or, find, Some, None, arith, refl, sym, ap, ◌∙◌}
use Rattle.std.specs.List.{list_any}
use Rattle.std.proofs.lemmas.Bool.{ne_eqb}
use Rattle.kit_base.specs.declared.message.Message.{Message}
use Rattle.kit_rules.specs.declared.scene.Scene.{Scene}
use Rattle.kit_rules.specs.Step.{is_event, takes_back, is_target, no_message, AreMarked}

-- where no element passes a test, none is found
pub find_none : {X : Type 0} (p : X → Bool) (xs : List X) (d : X) → ((k : ℕ) → k < length xs → p (get_or xs k d) ≡ false) → find p xs ≡ None
find_none p [] d h = refl
find_none p (x ∷ xs) d h =
    let no : p x ≡ false = h 0 (omega arith) in
    rw no (find_none p xs d (λ k lt. h (suc k) (omega arith)))

-- where only the element at one place can pass a test, that one is found or none
pub find_at : {X : Type 0} (p : X → Bool) (xs : List X) (i : ℕ) (d : X) → i < length xs → ((k : ℕ) → k < length xs → (k ≡ i → ⊥) → p (get_or xs k d) ≡ false) → find p xs ≡ cond (p (get_or xs i d)) (Some (get_or xs i d)) None
find_at p [] i d lt h = absurd (omega arith)
find_at p (x ∷ xs) zero d lt h =
    ap (λ o. cond (p x) (Some x) o) (find_none p xs d (λ k below. h (suc k) (omega arith) (λ e. omega arith)))
find_at p (x ∷ xs) (suc i) d lt h =
    let no : p x ≡ false = h 0 (omega arith) (λ e. omega arith) in
    rw no (find_at p xs i d (omega arith) (λ k below other. h (suc k) (omega arith) (λ e. other (omega arith))))

-- where no element passes a test, no element does
pub any_none : {X : Type 0} (p : X → Bool) (xs : List X) (d : X) → ((k : ℕ) → k < length xs → p (get_or xs k d) ≡ false) → list_any p xs ≡ false
any_none p [] d h = refl
any_none p (x ∷ xs) d h =
    let no : p x ≡ false = h 0 (omega arith) in
    rw no (any_none p xs d (λ k lt. h (suc k) (omega arith)))

-- where only the element at one place can pass a test, it tells whether any does
pub any_at : {X : Type 0} (p : X → Bool) (xs : List X) (i : ℕ) (d : X) → i < length xs → ((k : ℕ) → k < length xs → (k ≡ i → ⊥) → p (get_or xs k d) ≡ false) → list_any p xs ≡ p (get_or xs i d)
any_at p [] i d lt h = absurd (omega arith)
any_at p (x ∷ xs) zero d lt h =
    ap (λ b. p x || b) (any_none p xs d (λ k below. h (suc k) (omega arith) (λ e. omega arith))) ∙ or_false (p x)
  where
    or_false : (b : Bool) → (b || false) ≡ b
    or_false true = refl
    or_false false = refl
any_at p (x ∷ xs) (suc i) d lt h =
    let no : p x ≡ false = h 0 (omega arith) (λ e. omega arith) in
    rw no (any_at p xs i d (omega arith) (λ k below other. h (suc k) (omega arith) (λ e. other (omega arith))))

-- a test that is not true is false
not_true : (b : Bool) → (b ≡ true → ⊥) → b ≡ false
not_true true h = absurd (h refl)
not_true false h = refl

-- a send that the mark of a number does not point to does not name that number
pub not_marked : (sends : List Message) (marks : List ℕ) (number k : ℕ) → AreMarked sends marks → 1 ≤ number → k < length sends → (get_or marks (number - 1) 0 ≡ k + 1 → ⊥) → takes_back number (get_or sends k no_message) ≡ false
not_marked sends marks number k h low lt other =
    let e : number - 1 + 1 ≡ number = omega arith in
    not_true _ (λ t. other (h.1 k (number - 1) lt (rw e t)))

-- a number whose mark points to no send is not taken back
pub none_taken_back : (sends : List Message) (marks : List ℕ) (number : ℕ) → AreMarked sends marks → 1 ≤ number → ((k : ℕ) → k < length sends → get_or marks (number - 1) 0 ≡ k + 1 → ⊥) → list_any (takes_back number) sends ≡ false
none_taken_back sends marks number h low none =
    any_none (takes_back number) sends no_message (λ k lt. not_marked sends marks number k h low lt (none k lt))

-- the send that the mark points to tells whether the number is taken back
pub taken_back_at : (sends : List Message) (marks : List ℕ) (number mark : ℕ) → AreMarked sends marks → 1 ≤ number → get_or marks (number - 1) 0 ≡ mark → 1 ≤ mark → mark ≤ length sends → list_any (takes_back number) sends ≡ takes_back number (get_or sends (mark - 1) no_message)
taken_back_at sends marks number mark h low e one le =
    any_at (takes_back number) sends (mark - 1) no_message (omega arith) (λ k lt other. not_marked sends marks number k h low lt (λ q. other (omega arith)))

-- sends that are numbered from 1 on
abbrev AreNumbered : List Message → Type 0
AreNumbered sends = (k : ℕ) → k < length sends → (get_or sends k no_message).number ≡ k + 1

-- a send of another number is no target
not_target : (scene : Scene) (sends : List Message) (number : ℕ) (m : Message) → (m.number ≡ number → ⊥) → is_target scene sends number m ≡ false
not_target scene sends number m h =
    let no : nat_eq m.number number ≡ false = ne_eqb m.number number h in
    rw no (never (is_event m.kind) (nat_le m.time scene.end) (nat_le (scene.time + scene.lookahead) m.time) (not (list_any (takes_back number) sends)))
  where
    never : (a b c d : Bool) → (a && false && b && c && d) ≡ false
    never true b c d = refl
    never false b c d = refl

-- a number that no send has names nothing
pub no_target : (scene : Scene) (sends : List Message) (number : ℕ) → AreNumbered sends → ((k : ℕ) → k < length sends → k + 1 ≡ number → ⊥) → find (is_target scene sends number) sends ≡ None
no_target scene sends number h none =
    find_none (is_target scene sends number) sends no_message (λ k lt. not_target scene sends number (get_or sends k no_message) (λ e. none k lt (sym (h k lt) ∙ e)))

-- a number names the send at the place before it, or nothing
pub target_at : (scene : Scene) (sends : List Message) (number : ℕ) → AreNumbered sends → 1 ≤ number → number ≤ length sends
    → find (is_target scene sends number) sends ≡ cond (is_target scene sends number (get_or sends (number - 1) no_message)) (Some (get_or sends (number - 1) no_message)) None
target_at scene sends number h low high =
    find_at (is_target scene sends number) sends (number - 1) no_message (omega arith)
    (λ k lt other. not_target scene sends number (get_or sends k no_message) (λ e. other (let a : (get_or sends k no_message).number ≡ k + 1 = h k lt in omega arith)))
