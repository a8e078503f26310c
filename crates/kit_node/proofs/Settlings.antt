-- One entry of a queue after another gives up its buffer.
use Rattle.std.proofs.Common.{◌≡◌, ℕ, ◌+◌, ◌<◌, ◌&&◌, nat_lt, Bool, true, false, List, [], ◌∷◌, refl, sym, ap, ◌∙◌, arith, if◌then◌else◌}
use Rattle.std.proofs.Math.Bool.{and-false}
use Rattle.std.specs.Prelude.{Option, Some, None, is_some, find, option_map, option_and_then, count_by}
use Rattle.std.proofs.lemmas.Option.{none-some}
use Rattle.std.proofs.lemmas.Bool.{false≢true}
use Rattle.std.proofs.lemmas.List.Sums.{sum_by-cons}
use Rattle.kit_queue.specs.declared.entry.Entry.{Entry}
use Rattle.kit_queue.specs.Entries.{buffer_of, first_buffer, is_settleable, with_first_settled, without_buffer}
use Rattle.kit_node.specs.Settling.{settled_below, settled_or_same}

abbrev buffer_by : ℕ → Entry → List Entry → Bool → Option (ℕ × ℕ)
buffer_by below e es b = option_and_then buffer_of (if b then Some e else find (is_settleable below) es)

-- each entry that is settled stays the same, where it is settled again
settled_twice : (below : ℕ) (es : List Entry) → settled_below below (with_first_settled below es) ≡ settled_below below es
settled_twice below [] = refl
settled_twice below (e ∷ es) = go (is_settleable below e) refl (settled_twice below es)
  where
    none_again : (b : Bool) → (if b && false then without_buffer (without_buffer e) else without_buffer e) ≡ without_buffer e
    none_again true = refl
    none_again false = refl

    again : is_settleable below e ≡ true → settled_or_same below (without_buffer e) ≡ settled_or_same below e
    again may = none_again (nat_lt e.message.time below) ∙ ap (λ (b : Bool). if b then without_buffer e else e) (sym may)

    go : (b : Bool) → is_settleable below e ≡ b → settled_below below (with_first_settled below es) ≡ settled_below below es
        → settled_below below (if is_settleable below e then without_buffer e ∷ es else e ∷ with_first_settled below es) ≡ settled_below below (e ∷ es)
    go true may rest = ap (λ (b : Bool). settled_below below (if b then without_buffer e ∷ es else e ∷ with_first_settled below es)) may ∙ ap (λ (x : Entry). x ∷ settled_below below es) (again may)
    go false may rest = ap (λ (b : Bool). settled_below below (if b then without_buffer e ∷ es else e ∷ with_first_settled below es)) may ∙ ap (λ (l : List Entry). settled_or_same below e ∷ l) rest

pub settled_again : (below : ℕ) (es : List Entry) → settled_below below (with_first_settled below es) ≡ settled_below below es
settled_again = settled_twice

-- where no entry can be settled all stay as they are
some_buffer : (below : ℕ) (e : Entry) (b : Option ℕ) → e.buffer ≡ b → is_settleable below e ≡ true → option_map {U = ℕ × ℕ} (λ (c : ℕ). (e.message.sender, c)) b ≡ None → ⊥
some_buffer below e None is may none = false≢true (sym (and-false (nat_lt e.message.time below)) ∙ (ap (λ (b : Option ℕ). nat_lt e.message.time below && is_some b) (sym is) ∙ may))
some_buffer below e (Some b) is may none = none-some (e.message.sender, b) (sym none)

none_of : (below : ℕ) (e : Entry) (es : List Entry) (b : Bool) → is_settleable below e ≡ b → first_buffer below (e ∷ es) ≡ None
    → (first_buffer below es ≡ None → settled_below below es ≡ es) → settled_below below (e ∷ es) ≡ e ∷ es
none_of below e es true may h rest = absurd (some_buffer below e e.buffer refl may (ap (buffer_by below e es) (sym may) ∙ h))
none_of below e es false may h rest =
    ap (λ (b : Bool). (if b then without_buffer e else e) ∷ settled_below below es) may ∙ ap (λ (l : List Entry). e ∷ l) (rest (ap (buffer_by below e es) (sym may) ∙ h))

pub none_settled : (below : ℕ) (es : List Entry) → first_buffer below es ≡ None → settled_below below es ≡ es
none_settled below [] h = refl
none_settled below (e ∷ es) h = none_of below e es (is_settleable below e) refl h (none_settled below es)

-- one fewer can be settled
count_cons : (below : ℕ) (e : Entry) (es : List Entry) → count_by (is_settleable below) (e ∷ es) ≡ (if is_settleable below e then 1 else 0) + count_by (is_settleable below) es
count_cons below e es = sum_by-cons (λ (x : Entry). if is_settleable below x then 1 else 0) e es

settles_one : (below : ℕ) (e : Entry) → is_settleable below (without_buffer e) ≡ false
settles_one below e = and-false (nat_lt e.message.time below)

fewer_of : (below : ℕ) (e : Entry) (es : List Entry) (i k : ℕ) (b : Bool) → is_settleable below e ≡ b → first_buffer below (e ∷ es) ≡ Some (i, k)
    → (first_buffer below es ≡ Some (i, k) → count_by (is_settleable below) (with_first_settled below es) < count_by (is_settleable below) es)
    → count_by (is_settleable below) (with_first_settled below (e ∷ es)) < count_by (is_settleable below) (e ∷ es)
fewer_of below e es i k true may h rest =
    let a = count_cons below (without_buffer e) es ∙ ap (λ (b : Bool). (if b then 1 else 0) + count_by (is_settleable below) es) (settles_one below e) in
    let b = count_cons below e es ∙ ap (λ (b : Bool). (if b then 1 else 0) + count_by (is_settleable below) es) may in
    let c = ap (λ (b : Bool). count_by (is_settleable below) (if b then without_buffer e ∷ es else e ∷ with_first_settled below es)) may in
    omega arith
fewer_of below e es i k false may h rest =
    let less = rest (ap (buffer_by below e es) (sym may) ∙ h) in
    let a = count_cons below e (with_first_settled below es) in
    let b = count_cons below e es in
    let c = ap (λ (b : Bool). count_by (is_settleable below) (if b then without_buffer e ∷ es else e ∷ with_first_settled below es)) may in
    omega arith

pub fewer : (below : ℕ) (es : List Entry) (i k : ℕ) → first_buffer below es ≡ Some (i, k) → count_by (is_settleable below) (with_first_settled below es) < count_by (is_settleable below) es
fewer below [] i k h = absurd (none-some (i, k) h)
fewer below (e ∷ es) i k h = fewer_of below e es i k (is_settleable below e) refl h (fewer below es i k)
