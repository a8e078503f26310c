-- The sends of a restored state: one for each number, all of them Events.
use Rattle.std.proofs.Common.{◌≡◌, ◌≢◌, ◌⊎◌, inl, inr, ℕ, true, false, not, ◌&&◌, ◌+◌, ◌-◌, ◌<◌, ◌≤◌, All, List, [], ◌∷◌, length, get_or, map, fold, nat_eq, slice_index_or, true≢false, arith, sym, ap, ◌∙◌, subst}
use Rattle.std.specs.List.{AllByRecursion, range_with_len}
use Rattle.std.proofs.lemmas.List.{length-set, get_or-set_same, get_or-set_other}
use Rattle.std.proofs.lemmas.List.Elements.{recursion_from_All}
use Rattle.std.proofs.lemmas.Bool.Decides.{eqb_tells}
use Rattle.std.proofs.lemmas.List.FromFn.{length-map-range_with_len, get_or-map-range_with_len}
use Rattle.kit_base.specs.declared.message.Message.{Message}
use Rattle.kit_rules.specs.declared.own.Own.{Own}
use Rattle.kit_rules.specs.Own.{own_message, past_message, with_own, restored_sends, IsNumberedBelow}
use Rattle.kit_rules.specs.Step.{is_event, takes_back, no_message, AreMarked}

-- an Event with the number of its place
pub record IsInPlace (k : ℕ) (m : Message) : Type 0 where
  pub number : m.number ≡ k + 1
  pub event : is_event m.kind ≡ true

abbrev pub AreInPlace : List Message → Type 0
AreInPlace sends = (k : ℕ) → k < length sends → IsInPlace k (get_or sends k no_message)

-- so many sends, each in its place
pub record AreRestored (count : ℕ) (sends : List Message) : Type 0 where
  pub many : length sends ≡ count
  pub placed : AreInPlace sends

past_are : (i n : ℕ) → AreRestored n (map (past_message i) (range_with_len 1 n))
past_are i n = record {
  many = length-map-range_with_len (past_message i) 1 n;
  placed = λ k lt.
      let e = get_or-map-range_with_len (past_message i) 1 n k (k + 1) no_message (omega (arith, lt, length-map-range_with_len (past_message i) 1 n)) (omega arith) in
      record { number = ap (λ (m : Message). m.number) e; event = ap (λ (m : Message). is_event m.kind) e };
}

one_more : (i n : ℕ) (sends : List Message) (o : Own) → IsNumberedBelow (n + 1) o → AreRestored n sends → AreRestored n (with_own i sends o)
one_more i n sends o is r = record {
  many = length-set sends (o.number - 1) (own_message i o) ∙ r.many;
  placed = λ k lt. at k (omega (arith, lt, length-set sends (o.number - 1) (own_message i o))) (eqb_tells k (o.number - 1));
}
  where
    at : (k : ℕ) → k < length sends → ((nat_eq k (o.number - 1) ≡ true) × (k ≡ o.number - 1)) ⊎ ((nat_eq k (o.number - 1) ≡ false) × (k ≢ o.number - 1)) → IsInPlace k (get_or (with_own i sends o) k no_message)
    at k lt (inl (t, e)) =
        let same : get_or (with_own i sends o) k no_message ≡ own_message i o =
        ap (λ j. get_or (with_own i sends o) j no_message) e ∙ get_or-set_same sends (o.number - 1) (own_message i o) no_message (omega (arith, lt, e)) in
        record { number = ap (λ (m : Message). m.number) same ∙ omega (arith, e, is.0); event = ap (λ (m : Message). is_event m.kind) same }
    at k lt (inr (f, other)) =
        let same : get_or (with_own i sends o) k no_message ≡ get_or sends k no_message = get_or-set_other sends (o.number - 1) k (own_message i o) no_message other in
        subst (IsInPlace k) (sym same) (r.placed k lt)

all_more : (i n : ℕ) (sends : List Message) (own : List Own) → AllByRecursion (IsNumberedBelow (n + 1)) own → AreRestored n sends → AreRestored n (fold (with_own i) sends own)
all_more i n sends [] is r = r
all_more i n sends (o ∷ os) is r = all_more i n (with_own i sends o) os is.1 (one_more i n sends o is.0 r)

-- the sends of a restored state are as many as it has numbers, each an Event with the number of its place
pub are_restored : (i next : ℕ) (own : List Own) → 1 ≤ next → All (IsNumberedBelow next) own → AreRestored (next - 1) (restored_sends i next own)
are_restored i next own low is =
    let e : next ≡ next - 1 + 1 = omega (arith, low) in
    all_more i (next - 1) (map (past_message i) (range_with_len 1 (next - 1))) own
    (recursion_from_All (IsNumberedBelow (next - 1 + 1)) own (subst (λ n. All (IsNumberedBelow n) own) e is)) (past_are i (next - 1))

-- an Event takes nothing back
pub events_take_nothing : (number : ℕ) (m : Message) → is_event m.kind ≡ true → takes_back number m ≡ false
events_take_nothing number m e = ap (λ b. not b && nat_eq m.value number) e

-- what is kept of a state holds of these sends, whatever marks there are
pub restored_is_kept : (i next : ℕ) (own : List Own) (sends : List Message) (marks : List ℕ) → 1 ≤ next → next ≤ 16385 → All (IsNumberedBelow next) own
    → sends ≡ restored_sends i next own → length sends ≤ length marks
    → ((next ≡ length sends + 1) × (next ≤ 16385) × ((k : ℕ) → k < length sends → (slice_index_or sends k no_message).number ≡ k + 1)) × AreMarked sends marks
restored_is_kept i next own sends marks low high is same room =
    let r : AreRestored (next - 1) sends = subst (AreRestored (next - 1)) (sym same) (are_restored i next own low is) in (
      (omega (arith, r.many, low), high, λ k lt. (r.placed k lt).number),
      (
        room,
        λ k number lt takes.
            absurd (true≢false (sym takes ∙ events_take_nothing (number + 1) (get_or sends k no_message) (r.placed k lt).event)),
      ),
    )
