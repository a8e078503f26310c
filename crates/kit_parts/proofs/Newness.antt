-- What is in transit or waits was not received.
use Rattle.std.proofs.Common.{◌≡◌, ℕ, ◌+◌, ◌<◌, ◌≤◌, List, length, filter, arith, ◌∙◌, subst, Option, Some, None}
use Rattle.std.specs.List.{count_by}
use Rattle.std.proofs.lemmas.Bool.{eq-eqb}
use Rattle.kit_base.specs.declared.message.Message.{Message}
use Rattle.kit_rules.specs.Parts.{Parts}
use Rattle.kit_rules.specs.Federation.{IsFederation}
use Rattle.kit_rules.specs.Simulation.{Block}
use Rattle.kit_parts.specs.Fronts.{Standing, is_transported_to, is_by, sent_by, sends_after, seat_after}
use Rattle.kit_parts.specs.Cuts.{AreSound}
use Rattle.kit_parts.specs.Laws.{IsNew, WhatComesIsNew, WhatWaitsIsNew}
use Rattle.kit_parts.proofs.Among.{Among, among_filter, filter_among, contains_among, among_contains, distinct_filter}
use Rattle.kit_parts.proofs.Seats.{sound_after, numbered_one, numbered_sender}
use Rattle.kit_base.proofs.Counting.{count_has}
use Rattle.kit_parts.proofs.Counting.{same, same_here, has_same, count_once}
use Rattle.kit_parts.proofs.Cutting.{sent_distinct}

-- what federate j sent has it as its sender, and those of one number are one
own_sends : (p : Parts) (j : ℕ) (o : Option (List Block)) (m : Message) → IsFederation p → j < length p.federates → Among m (sends_after p j o) → m.sender ≡ j
own_sends p j None m f lt a = elim a [ ]
own_sends p j (Some done) m f lt a = (numbered_sender j 1 (seat_after p j done).state.sends m (sound_after p j done f lt).numbered a).0

own_one : (p : Parts) (j : ℕ) (o : Option (List Block)) (a b : Message) → IsFederation p → j < length p.federates → Among a (sends_after p j o) → Among b (sends_after p j o) → a.number ≡ b.number → a ≡ b
own_one p j None a b f lt in_a in_b e = elim in_a [ ]
own_one p j (Some done) a b f lt in_a in_b e = numbered_one j 1 (seat_after p j done).state.sends a b (sound_after p j done f lt).numbered in_a in_b e

-- one that counts beside what was received
new_from : (p : Parts) (f : IsFederation p) (all : ℕ → Standing) (transit waiting : ℕ → ℕ → List Message) → AreSound p all transit waiting → (j i : ℕ) → j < length p.federates → i < length p.federates → (m : Message)
    → 1 ≤ count_by (same m) (transit j i) + count_by (same m) (waiting j i) → IsNew p all j i m
new_from p f all transit waiting s j i lj li m counts =
    let k = (s.split j i lj li).counts (same m) in
    let sends = sent_by p j (all j) in
    let q = filter_among (is_transported_to p i) m sends (has_same m (filter (is_transported_to p i) sends) (omega (arith, k))) in
    let own = own_sends p j (all j).done m f lj q.0 in
    let once = count_once m (filter (is_transported_to p i) sends) (distinct_filter (is_transported_to p i) sends (sent_distinct p j (all j).done f lj)) in
    record {
      sender = own;
      sent = among_contains m sends q.0;
      here = q.1;
      new = λ x c from number.
          let a = contains_among x (all i).received c in
          let by : Among x (filter (is_by j) (all i).received) = among_filter (is_by j) x (all i).received a (eq-eqb x.sender j (from ∙ own)) in
          let kx = (s.split j i lj li).counts (same x) in
          let r = filter_among (is_transported_to p i) x sends (has_same x (filter (is_transported_to p i) sends) (omega (arith, kx, count_has (same x) (filter (is_by j) (all i).received) x (among_contains x _ by) (same_here x)))) in
          let one : x ≡ m = own_one p j (all j).done x m f lj r.0 q.0 number in
          let P : Message → Type 0 = λ v. Among v (filter (is_by j) (all i).received) in
          absurd (omega (arith, k, once, count_has (same m) (filter (is_by j) (all i).received) m (among_contains m _ (subst P one by)) (same_here m)));
    }

pub what_comes_is_new_law : WhatComesIsNew
what_comes_is_new_law p f all transit waiting s j i lj li m c = new_from p f all transit waiting s j i lj li m (omega (arith, count_has (same m) (transit j i) m c (same_here m)))

pub what_waits_is_new_law : WhatWaitsIsNew
what_waits_is_new_law p f all transit waiting s j i lj li m c = new_from p f all transit waiting s j i lj li m (omega (arith, count_has (same m) (waiting j i) m c (same_here m)))
