-- The front of a queue in order: what stands there and is due is all that is due, and the others stand behind it.
use Rattle.std.proofs.Common.{◌≡◌, ℕ, ◌<◌, ◌≤◌, ◌==◌, nat_le, nat_lt, inl, inr, Bool, true, false, cond, List, [], ◌∷◌, filter, refl, sym, ap, ◌∙◌, arith}
use Rattle.std.specs.List.{AllByRecursion}
use Rattle.std.specs.List.Sorted.{IsStrictlySortedBy}
use Rattle.std.specs.Ordering.{nat_cmp, ordering_then}
use Rattle.std.specs.declared.cmp.Ordering.TheVariants.{Less, Equal, Greater}
use Rattle.std.proofs.lemmas.Bool.{cases_lt, le-leb, le-ltb, lt-leb, lt-ltb, ne_eqb}
use Rattle.kit_base.specs.declared.message.Message.{Message}
use Rattle.kit_base.specs.Order.{key_cmp}
use Rattle.kit_queue.specs.declared.entry.Entry.{Entry}
use Rattle.kit_queue.specs.Entries.{IsInOrder, messages_of}
use Rattle.kit_lbts.specs.Progress.{due_in}
use Rattle.kit_node.specs.Granting.{behind_due, front_due}

-- a message before another is not timed after it
time_before : (a b : Message) → key_cmp a b ≡ Less → a.time ≤ b.time
time_before a b less = elim (cases_lt b.time a.time) [
  | inl late ↦
      let lt : nat_lt a.time b.time ≡ false = le-ltb a.time b.time (let l : b.time < a.time = late in omega arith) in
      let ne : (a.time == b.time) ≡ false = ne_eqb a.time b.time (λ e. let l : b.time < a.time = late in omega (arith, e)) in
      let greater : key_cmp a b ≡ Greater =
      λ i. ordering_then (cond (lt i) Less (cond (ne i) Equal Greater)) (ordering_then (nat_cmp a.sender b.sender) (nat_cmp a.number b.number)) in
      absurd (cc)
  | inr early ↦ early
]

abbrev is_early : ℕ → Entry → Bool
is_early d e = nat_le e.message.time d

abbrev is_late : ℕ → Entry → Bool
is_late d e = nat_lt d e.message.time

-- behind a late message all are late
none_due : (d : ℕ) (x : Message) (es : List Entry) → d < x.time → AllByRecursion (λ (y : Message). key_cmp x y ≡ Less) (messages_of es) → filter (is_early d) es ≡ []
none_due d x [] late h = refl
none_due d x (e ∷ es) late h =
    let later = time_before x e.message h.0 in
    let no : nat_le e.message.time d ≡ false = lt-leb e.message.time d (omega arith) in
    ap (λ (b : Bool). cond b (e ∷ filter (is_early d) es) (filter (is_early d) es)) no ∙ none_due d x es late h.1

all_late : (d : ℕ) (x : Message) (es : List Entry) → d < x.time → AllByRecursion (λ (y : Message). key_cmp x y ≡ Less) (messages_of es) → filter (is_late d) es ≡ es
all_late d x [] late h = refl
all_late d x (e ∷ es) late h =
    let later = time_before x e.message h.0 in
    let yes : nat_lt d e.message.time ≡ true = lt-ltb d e.message.time (omega arith) in
    ap (λ (b : Bool). cond b (e ∷ filter (is_late d) es) (filter (is_late d) es)) yes ∙ ap (λ (l : List Entry). e ∷ l) (all_late d x es late h.1)

pub front_is : (d : ℕ) (es : List Entry) → IsInOrder es → front_due d es ≡ due_in d es
unfolding IsStrictlySortedBy
front_is d [] s = refl
front_is d (e ∷ es) s = elim (cases_lt d e.message.time) [
  | inl late ↦
      let no : nat_le e.message.time d ≡ false = lt-leb e.message.time d late in
      ap (λ (b : Bool). cond b (e.message ∷ front_due d es) []) no
      ∙ sym (ap (λ (b : Bool). messages_of (cond b (e ∷ filter (is_early d) es) (filter (is_early d) es))) no ∙ ap messages_of (none_due d e.message es late s.0))
  | inr early ↦
      let yes : nat_le e.message.time d ≡ true = le-leb e.message.time d early in
      ap (λ (b : Bool). cond b (e.message ∷ front_due d es) []) yes
      ∙ (ap (λ (l : List Message). e.message ∷ l) (front_is d es s.1) ∙ sym (ap (λ (b : Bool). messages_of (cond b (e ∷ filter (is_early d) es) (filter (is_early d) es))) yes))
]

pub behind_is : (d : ℕ) (es : List Entry) → IsInOrder es → behind_due d es ≡ filter (λ (e : Entry). nat_lt d e.message.time) es
unfolding IsStrictlySortedBy
behind_is d [] s = refl
behind_is d (e ∷ es) s = elim (cases_lt d e.message.time) [
  | inl late ↦
      let no : nat_le e.message.time d ≡ false = lt-leb e.message.time d late in
      let yes : nat_lt d e.message.time ≡ true = lt-ltb d e.message.time late in
      ap (λ (b : Bool). cond b (behind_due d es) (e ∷ es)) no
      ∙ sym (ap (λ (b : Bool). cond b (e ∷ filter (is_late d) es) (filter (is_late d) es)) yes ∙ ap (λ (l : List Entry). e ∷ l) (all_late d e.message es late s.0))
  | inr early ↦
      let yes : nat_le e.message.time d ≡ true = le-leb e.message.time d early in
      let no : nat_lt d e.message.time ≡ false = le-ltb d e.message.time early in
      ap (λ (b : Bool). cond b (behind_due d es) (e ∷ es)) yes
      ∙ (behind_is d es s.1 ∙ sym (ap (λ (b : Bool). cond b (e ∷ filter (is_late d) es) (filter (is_late d) es)) no))
]
