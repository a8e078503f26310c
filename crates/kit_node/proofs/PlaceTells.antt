-- What a world tells of the seat's own place.
use Rattle.std.proofs.Common.{◌≡◌, ◌≢◌, ℕ, ◌+◌, ◌<◌, ◌≤◌, true, List, length, sym, ap, ◌∙◌, subst, arith}
use Rattle.std.specs.Prelude.{slice_index, count_by, None, Some, ◌⊎◌}
use Rattle.std.specs.List.{list_any}
use Rattle.std.specs.Int.{bit_at}
use Rattle.std.proofs.Common.{⊎_elim}
use Rattle.std.proofs.lemmas.Option.{none-some}
use Rattle.std.proofs.lemmas.Nat.Bits.{bit_at-lt}
use mathlib.Core.Logic.{dite}
use native.Mathlib.Decide.{ℕ_discrete}
use Rattle.kit_ground.specs.declared.place.Place.{Place}
use Rattle.kit_ground.specs.Steps.{buffer_of}
use Rattle.kit_ground.proofs.WorldFacts.{buffers_long}
use Rattle.kit_lbts.specs.declared.view.LbtsView.{LbtsView}
use Rattle.kit_lbts.specs.Agreement.{agreeing_rule}
use Rattle.kit_lbts.specs.MessageLaws.{HasHead, MaySettle}
use Rattle.kit_lbts.specs.Rule.{FederateRule}
use Rattle.kit_lbts.specs.Seats.{Holdings, waits_in}
use Rattle.kit_lbts.specs.Views.{is_in_hand, is_spent}
use Rattle.kit_lbts.proofs.Hands.{count_any, count_has, found_passes}
use Rattle.kit_lbts.specs.SeatLaws.{IsInWorld}

abbrev P : Type 0
P = Place LbtsView

-- what the rule says of this federate
pub seated : (p : P) (w : IsInWorld p) → FederateRule w.0 w.1 p.own.number p
seated p w = w.2.client.floor.each p.own.number p w.2.here

pub holdings : (p : P) → IsInWorld p → Holdings p
holdings p w = (seated p w).holdings

-- where no message is half posted, no buffer is still to be posted
pub owes_nothing : (p : P) → IsInWorld p → p.client.sending ≡ None → (k : ℕ) → (buffer_of p.own.stock k).to_post ≡ 0
owes_nothing p w whole k = dite (ℕ_discrete (buffer_of p.own.stock k).to_post 0)
    (λ zero_. zero_)
    (λ other. absurd (none-some k (sym whole ∙ (seated p w).letters.others k other)))

pub stock_long : (p : P) → IsInWorld p → length p.own.stock.buffers ≡ p.own.buffers
stock_long p w = buffers_long agreeing_rule p w.0 w.1 w.2

-- a buffer is held that is in hand, in the queue, or spent
abbrev Held : P → ℕ → ℕ → Type 0
Held p i k = bit_at (slice_index p.own.stock.holds i) k ≡ 1

held_by_count : (p : P) → IsInWorld p → (i k : ℕ) → i < p.own.federates → k < p.own.buffers
    → 0 < count_by (is_in_hand i k) p.client.in_hand + count_by (waits_in i k) p.client.queue + count_by (is_spent i k) p.client.spent → Held p i k
held_by_count p w i k li lk some_ = let e = (holdings p w).each i k li lk in let l = bit_at-lt (slice_index p.own.stock.holds i) k in omega arith

pub held_in_hand : (p : P) → IsInWorld p → (i k : ℕ) → i < p.own.federates → k < p.own.buffers → 0 < count_by (is_in_hand i k) p.client.in_hand → Held p i k
held_in_hand p w i k li lk some_ = held_by_count p w i k li lk (omega arith)

pub held_with_head : (p : P) → IsInWorld p → (i k head : ℕ) → i < p.own.federates → k < p.own.buffers → HasHead p i k head → Held p i k
held_with_head p w i k head li lk has =
    let f = found_passes (is_in_hand i k) p.client.in_hand (record { from = i; buffer = k; head = Some head }) has in
    held_in_hand p w i k li lk (count_has (is_in_hand i k) p.client.in_hand (record { from = i; buffer = k; head = Some head }) f.1 f.0)

pub held_releasable : (p : P) → IsInWorld p → (i k : ℕ) → i < p.own.federates → k < p.own.buffers
    → (list_any (is_spent i k) p.client.spent ≡ true) ⊎ MaySettle p i k → Held p i k
held_releasable p w i k li lk may = held_by_count p w i k li lk (⊎_elim
    (λ (e : list_any (is_spent i k) p.client.spent ≡ true). let l = count_any (is_spent i k) p.client.spent e in omega arith)
    (λ (s : MaySettle p i k). let l = count_any (waits_in i k) p.client.queue s.waits in omega arith)
    may)
