-- The pending messages of a federate that were read.
use Rattle.std.proofs.Common.{◌≡◌, ℕ, suc, ◌+◌, ◌≤◌, ◌^◌, false, List, [], ◌∷◌, length, Ok, nat_lt, nat_le, codes, refl, subst, arith}
use Rattle.std.specs.Prelude.{◌&&◌, ◌==◌, not, IsTrue, is_some, slice_index}
use Rattle.std.specs.List.{All, AllPairs, list_all, list_any}
use Rattle.std.proofs.lemmas.Bool.{and_parts, and_from, or_parts, leb-true, ltb-true, eq-eqb, not-true, both_ways}
use Rattle.std.proofs.lemmas.List.Elements.{All-nil, All-cons, All-push}
use Rattle.std.proofs.lemmas.List.Sums.{AllPass-from_list_all}
use Rattle.std.proofs.lemmas.List.Quantifiers.{all_pairs_push}
use Rattle.serde_json.specs.Data.{Data}
use Rattle.kit_base.specs.declared.message.Message.{Message}
use Rattle.kit_base.specs.Order.{is_before}
use Rattle.kit_rules.specs.Parts.{Parts, federate_at}
use Rattle.kit_rules.specs.Step.{is_event}
use Rattle.kit_rules.specs.Delivery.{has_bit, receivers_of}
use Rattle.kit_walk.specs.declared.fault.FaultKind.TheVariants as kind
use Rattle.kit_walk.specs.Paths.{item_path}
use Rattle.kit_walk.specs.Reading.{◌>>=◌, guard, each}
use Rattle.kit_walk.specs.Places.{list}
use Rattle.kit_cut.specs.ValidCuts.{IsPendingMessage, NumbersDiffer}
use Rattle.kit_restore.specs.CutWalk.{row_of, guard_at, message_in, is_same_send, is_regulating, is_receiver, message_of, message_step, messages_of}
use Rattle.kit_restore.proofs.Answered.{bind_ok, guarded, gave, gave_same, list_ok, each_kept, appended, one_longer}

-- it comes before another
abbrev ComesBefore : Message → Message → Type 0
ComesBefore a b = IsTrue (is_before a b)

-- what is not of the same send differs
differs : (m b : Message) → is_same_send m b ≡ false → NumbersDiffer b m
differs m b unlike sender number = both_ways (is_same_send m b) unlike (and_from (b.sender == m.sender) (b.number == m.number) (eq-eqb b.sender m.sender sender) (eq-eqb b.number m.number number))

-- so do all before
all_differ : (m : Message) (done : List Message) → list_any (is_same_send m) done ≡ false → All (λ b. NumbersDiffer b m) done
all_differ m [] unlike = All-nil (λ b. NumbersDiffer b m)
all_differ m (b ∷ done) unlike =
    let both = or_parts (is_same_send m b) (list_any (is_same_send m) done) unlike in
    All-cons (λ x. NumbersDiffer x m) b done (differs m b both.0) (all_differ m done both.1)

-- one that may stand behind these
abbrev IsNextPending : Parts → ℕ → ℕ → List ℕ → List Message → Message → Type 0
IsNextPending p i from nexts done m = All (λ b. ComesBefore b m) done × All (λ b. NumbersDiffer b m) done × IsPendingMessage p i from nexts m

-- what passed the tests
tests_passed : (p : Parts) (i from : ℕ) (nexts : List ℕ) (done : List Message) (m q : Message) → IsTrue (is_event m.kind)
    → (guard (list_all (λ b. is_before b m) done) kind.OutOfRange [] >>= λ u. guard (not (list_any (is_same_send m) done)) kind.Repeated [] >>= λ u. guard_at (nat_le from m.time && nat_le m.time p.end) 0 >>= λ u. guard_at (is_regulating p m.sender) 1 >>= λ u. guard_at (nat_lt m.number (slice_index nexts m.sender)) 2 >>= λ u. guard_at (is_receiver p m.sender m.group i) 3 >>= λ u. guard_at (nat_lt m.value (2 ^ 32)) 4 >>= λ u. gave m) ≡ Ok q
    → IsNextPending p i from nexts done q
tests_passed p i from nexts done m q event e =
    let rise = guarded (list_all (λ b. is_before b m) done) _ _ _ q e in
    let differ = guarded (not (list_any (is_same_send m) done)) _ _ _ q rise.1 in
    let time = guarded (nat_le from m.time && nat_le m.time p.end) _ _ _ q differ.1 in
    let sender = guarded (is_regulating p m.sender) _ _ _ q time.1 in
    let number = guarded (nat_lt m.number (slice_index nexts m.sender)) _ _ _ q sender.1 in
    let receiver = guarded (is_receiver p m.sender m.group i) _ _ _ q number.1 in
    let value = guarded (nat_lt m.value (2 ^ 32)) _ _ _ q receiver.1 in
    let times = and_parts (nat_le from m.time) (nat_le m.time p.end) time.0 in
    let senders = and_parts (nat_lt m.sender (length p.federates)) (is_some (federate_at p m.sender).lookahead) sender.0 in
    let receivers = and_parts (nat_lt m.group (length p.groups)) (has_bit (receivers_of p m.sender m.group) i) receiver.0 in
    subst (IsNextPending p i from nexts done) (gave_same m q value.1) (
      AllPass-from_list_all (λ b. is_before b m) done rise.0,
      all_differ m done (not-true (list_any (is_same_send m) done) differ.0),
      record {
        event = event;
        low = leb-true from m.time times.0;
        high = leb-true m.time p.end times.1;
        sender = ltb-true m.sender (length p.federates) senders.0;
        regulating = senders.1;
        number = ltb-true m.number (slice_index nexts m.sender) number.0;
        group = ltb-true m.group (length p.groups) receivers.0;
        receives = receivers.1;
      },
    )

-- one that was read
message_is : (p : Parts) (i from : ℕ) (nexts : List ℕ) (done : List Message) (d : Data) (q : Message) → message_of p i from nexts done d ≡ Ok q → IsNextPending p i from nexts done q
unfolding message_of
message_is p i from nexts done d q e =
    let ns = bind_ok (row_of 5 d) _ q e in
    tests_passed p i from nexts done (message_in ns.0) q refl ns.2

-- so many of them
abbrev ArePendingSoFar : Parts → ℕ → ℕ → List ℕ → ℕ → List Message → Type 0
ArePendingSoFar p i from nexts n done = AllPairs ComesBefore done × AllPairs NumbersDiffer done × All (IsPendingMessage p i from nexts) done × (length done ≡ n)

-- one more
message_kept : (p : Parts) (i from : ℕ) (nexts : List ℕ) (j : ℕ) (done : List Message) (d : Data) (t : List Message) → ArePendingSoFar p i from nexts j done → message_step p i from nexts j done d ≡ Ok t → ArePendingSoFar p i from nexts (suc j) t
unfolding message_step
message_kept p i from nexts j done d t h e =
    let m = appended (item_path (codes "pending") j) (message_of p i from nexts done d) done t e in
    let is = message_is p i from nexts done d m.0 m.1 in
    subst (ArePendingSoFar p i from nexts (suc j)) m.2 (
      all_pairs_push ComesBefore done m.0 h.0 is.0,
      all_pairs_push NumbersDiffer done m.0 h.1 is.1,
      All-push (IsPendingMessage p i from nexts) done m.0 h.2 is.2,
      one_longer done m.0 j h.3,
    )

-- what was read of the list pending
pub record AreRead (p : Parts) (i from : ℕ) (nexts : List ℕ) (ms : List Message) : Type 0 where
  pub few : length ms ≤ 262144
  pub rise : AllPairs (λ a b. IsTrue (is_before a b)) ms
  pub differ : AllPairs NumbersDiffer ms
  pub each : All (IsPendingMessage p i from nexts) ms

-- the list pending
pub messages_are : (p : Parts) (i from : ℕ) (nexts : List ℕ) (d : Data) (ms : List Message) → messages_of p i from nexts d ≡ Ok ms → AreRead p i from nexts ms
unfolding messages_of
messages_are p i from nexts d ms e =
    let ds = bind_ok (list (codes "pending") 0 262144 d) (λ ds. each (message_step p i from nexts) 0 [] ds) ms e in
    let many = list_ok (codes "pending") 0 262144 d ds.0 ds.1 in
    let are = each_kept (ArePendingSoFar p i from nexts) (message_step p i from nexts) (message_kept p i from nexts) 0 [] ds.0 ms ((λ k j d lt inside. absurd (omega arith)), (λ k j d lt inside. absurd (omega arith)), All-nil (IsPendingMessage p i from nexts), refl) ds.2 in
    let long : length ms ≡ 0 + length ds.0 = are.3 in
    record { few = omega (arith, long, many.1); rise = are.0; differ = are.1; each = are.2 }
