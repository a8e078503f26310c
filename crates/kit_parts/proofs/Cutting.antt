-- A moment at which a number is a bound is a cut.
use Rattle.std.proofs.Common.{◌≡◌, ℕ, inl, inr, ◌<◌, ◌≤◌, List, ◌++◌, length, filter, arith, refl, ap, Option, Some, None}
use Rattle.std.specs.List.{All, count_by}
use Rattle.std.proofs.lemmas.Bool.{eqb-true, eq-eqb, cases_lt}
use Rattle.std.proofs.lemmas.List.Elements.{All-contains}
use Rattle.kit_base.specs.declared.message.Message.{Message}
use Rattle.kit_rules.specs.Parts.{Parts}
use Rattle.kit_rules.specs.Federation.{IsFederation}
use Rattle.kit_rules.specs.Simulation.{Block}
use Rattle.kit_parts.specs.Fronts.{is_transported_to, is_by, sent_by, sends_after, seat_after}
use Rattle.kit_parts.specs.Laws.{BoundsAreCuts, ListsAreSplit}
use Rattle.kit_laws.proofs.Needs.{count_by-append}
use Rattle.kit_parts.proofs.Among.{Among, among_filter, filter_among, contains_among, among_contains, Distinct, distinct_filter, distinct_pairs}
use Rattle.kit_parts.proofs.Seats.{sound_after, numbered_distinct}
use Rattle.kit_parts.proofs.Whole.{apart_each}
use Rattle.kit_base.proofs.Counting.{count_has}
use Rattle.kit_parts.proofs.Counting.{same, same_here, has_same, count_once, once_count}

-- what a federate sent differs
pub sent_distinct : (p : Parts) (j : ℕ) (o : Option (List Block)) → IsFederation p → j < length p.federates → Distinct (sends_after p j o)
sent_distinct p j None f lt = tt
sent_distinct p j (Some done) f lt = numbered_distinct j 1 (seat_after p j done).state.sends (sound_after p j done f lt).numbered

pub bounds_are_cuts_law : BoundsAreCuts
bounds_are_cuts_law p f bound all transit waiting b =
    let n = length p.federates in
    let sender : (i : ℕ) → i < n → (m : Message) → Among m (all i).received → m.sender < n = λ i lt m a. All-contains (λ (m : Message). m.sender < n) (all i).received m (b.sound.senders i lt) (among_contains m (all i).received a) in
    record {
      fronts = b.sound.fronts;
      sent = λ i lt m c.
          let a = contains_among m (all i).received c in
          let s = sender i lt m a in
          let k = (b.sound.split m.sender i s lt).counts (same m) in
          let here = count_has (same m) (filter (is_by m.sender) (all i).received) m (among_contains m _ (among_filter (is_by m.sender) m (all i).received a (eq-eqb m.sender m.sender refl))) (same_here m) in
          let r = has_same m (filter (is_transported_to p i) (sent_by p m.sender (all m.sender))) (omega (arith, k, here)) in
          let q = filter_among (is_transported_to p i) m (sent_by p m.sender (all m.sender)) r in
          (s, among_contains m (sent_by p m.sender (all m.sender)) q.0, q.1);
      once = λ i lt. distinct_pairs (all i).received (apart_each (all i).received (λ j. once_count (filter (is_by j) (all i).received) (λ m a.
          let q = filter_among (is_by j) m (all i).received a in
          let e : m.sender ≡ j = eqb-true m.sender j q.1 in
          let s : j < n = (let h = sender i lt m q.0 in omega (arith, e)) in
          let k = (b.sound.split j i s lt).counts (same m) in
          omega (arith, k, count_once m (filter (is_transported_to p i) (sent_by p j (all j))) (distinct_filter (is_transported_to p i) (sent_by p j (all j)) (sent_distinct p j (all j).done f s))))));
      came = λ i j li lj m c here below.
          let a = contains_among m (sent_by p j (all j)) c in
          let k = (b.sound.split j i lj li).counts (same m) in
          let one = count_has (same m) (filter (is_transported_to p i) (sent_by p j (all j))) m (among_contains m _ (among_filter (is_transported_to p i) m (sent_by p j (all j)) a here)) (same_here m) in
          let not_late : (xs : List Message) → All (λ (x : Message). bound ≤ x.time) xs → count_by (same m) xs ≤ 0 = λ xs late. elim (cases_lt 0 (count_by (same m) xs)) [
            | inl lt ↦ absurd (
                let a = has_same m xs (let l : 0 < count_by (same m) xs = lt in omega arith) in
                let t = All-contains (λ (x : Message). bound ≤ x.time) xs m late (among_contains m xs a) in
                omega arith)
            | inr le ↦ le
          ] in
          let in_transit = not_late (transit j i) (b.transit_late j i lj li) in
          let in_wait = not_late (waiting j i) (λ q d within. let l = b.sound.waiting_late j i lj li q d within in omega (arith, b.promised j lj)) in
          let r = has_same m (filter (is_by j) (all i).received) (omega (arith, k, one, in_transit, in_wait)) in
          among_contains m (all i).received (filter_among (is_by j) m (all i).received r).0;
      promised = b.promised;
    }

pub lists_are_split_law : ListsAreSplit
lists_are_split_law p all transit waiting j i e = record {
  counts = λ test.
      let got = filter (is_by j) (all i).received in
      omega (arith, ap (count_by test) e, count_by-append test (got ++ transit j i) (waiting j i), count_by-append test got (transit j i));
}
