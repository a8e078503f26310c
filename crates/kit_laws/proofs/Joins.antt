-- What is sent in a row of rule steps is what is sent by all.
use Rattle.std.proofs.Common.{◌≡◌, ℕ, ◌+◌, ◌<◌, ◌≤◌, List, [], ◌∷◌, ◌++◌, length, take, drop, get_or, arith, sym, ap, ◌∙◌, refl, add-one, drop-cons, length-take, length-append}
use Rattle.std.proofs.lemmas.List.{append_assoc, take-append-drop, drop-append-le}
use Rattle.kit_base.specs.declared.message.Message.{Message}
use Rattle.kit_rules.specs.Parts.{Parts}
use Rattle.kit_rules.specs.declared.table.Trigger.TheVariants.{Got, Grant}
use Rattle.kit_rules.specs.declared.scene.State.{State}
use Rattle.kit_rules.specs.Step.{state_after}
use Rattle.kit_rules.proofs.Growth.{Grows, grows_none, grows_more, grows_by_step}
use Rattle.kit_rules.specs.Simulation.{after_deliveries, after_block}

pub sent_in_a_row : {X : Type 0} (m a b : List X) (n : ℕ) → n ≤ length a → take (length a) b ≡ a → (m ++ drop n a) ++ drop (length a) b ≡ m ++ drop n b
sent_in_a_row m a b n le kept =
    let whole : a ++ drop (length a) b ≡ b = ap (λ xs. xs ++ drop (length a) b) (sym kept) ∙ take-append-drop (length a) b in
    append_assoc m (drop n a) (drop (length a) b) ∙ ap (λ xs. m ++ xs) (sym (drop-append-le n a (drop (length a) b) le) ∙ ap (drop n) whole)

pub kept_longer : {X : Type 0} (a b : List X) → take (length a) b ≡ a → length a ≤ length b
kept_longer a b kept = omega (arith, length-take (length a) b, ap length kept)

pub delivery_step : (p : Parts) (i d : ℕ) (s : State) (due : List Message) (k : ℕ) (x : Message) → k < length due
    → after_deliveries p i d s (drop k due) ≡ after_deliveries p i d (state_after p i (Got (get_or due k x).group) d (get_or due k x).value s) (drop (k + 1) due)
delivery_step p i d s due k x h = rw (add-one, drop-cons due k x h) refl

pub grows_by_deliveries : (p : Parts) (i d : ℕ) (s : State) (due : List Message) → Grows i s (after_deliveries p i d s due)
grows_by_deliveries p i d s [] = grows_none i s
grows_by_deliveries p i d s (m ∷ ms) = grows_more i _ _ _ (grows_by_step p i (Got m.group) d m.value s) (grows_by_deliveries p i d (state_after p i (Got m.group) d m.value s) ms)

-- where one delivery goes past a number, so do all from there on
pub past_from_delivery : (p : Parts) (i d : ℕ) (s : State) (due : List Message) (k n : ℕ) (x : Message) → k < length due
    → n < (state_after p i (Got (get_or due k x).group) d (get_or due k x).value s).next → n < (after_deliveries p i d s (drop k due)).next
past_from_delivery p i d s due k n x h past =
    rw (delivery_step p i d s due k x h) (omega (arith, past, (grows_by_deliveries p i d (state_after p i (Got (get_or due k x).group) d (get_or due k x).value s) (drop (k + 1) due)).next))

pub grows_longer : (i : ℕ) (a b : State) → Grows i a b → length a.sends ≤ length b.sends
grows_longer i a b g = omega (arith, ap length g.sends, length-append a.sends g.made)

pub deliveries_longer : (p : Parts) (i d : ℕ) (s t : State) (due : List Message) → t ≡ after_deliveries p i d s due → length s.sends ≤ length t.sends
deliveries_longer p i d s t due e = rw e (grows_longer i s _ (grows_by_deliveries p i d s due))

pub past_from_deliveries : (p : Parts) (i d n : ℕ) (s : State) (due : List Message) → n < (after_deliveries p i d s due).next → n < (after_block p i d s due).next
past_from_deliveries p i d n s due past = omega (arith, past, (grows_by_step p i Grant d 0 (after_deliveries p i d s due)).next)

pub grows_by_block : (p : Parts) (i d : ℕ) (s : State) (due : List Message) → Grows i s (after_block p i d s due)
grows_by_block p i d s due = grows_more i _ _ _ (grows_by_deliveries p i d s due) (grows_by_step p i Grant d 0 (after_deliveries p i d s due))
