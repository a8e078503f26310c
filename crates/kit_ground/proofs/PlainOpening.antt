-- A new plain floor.
use Rattle.std.proofs.Common.{◌≡◌, ℕ, ◌<◌, ◌≤◌, sym, ap, ◌∙◌, subst}
use Rattle.std.proofs.lemmas.List.{length-replicate}
use Rattle.kit_ground.specs.Memory.{Memory}
use Rattle.kit_ground.specs.Layout.{size_of, memory_of}
use Rattle.kit_ground.specs.Rules.{Rule, FloorHolds, zero_memory, places_at_first}
use Rattle.kit_ground.specs.Floors.{RulesHold, memory, new_floor}
use Rattle.kit_ground.proofs.Layouts.{memory_blank}
use Rattle.kit_ground.proofs.Starts.{floored_at_first, length_places_from}

pub ruled_opened : {O V : Type 0} (rule : Rule V) (first : O → ℕ → V) (about : O) (n b : ℕ) → 1 ≤ n → n ≤ 16 → b ≤ 1024
    → rule.holds zero_memory (places_at_first (first about) n b) → RulesHold rule (new_floor first about n b)
ruled_opened rule first about n b some few small h =
    let places = places_at_first (first about) n b in
    let many = length_places_from (first about) n b 0 n in
    let blank_is : zero_memory ≡ memory (new_floor first about n b) = sym (memory_blank n b) ∙ ap (λ (k : ℕ). memory_of k b (new_floor first about n b).words) (sym many) in record {
      words = record {
        sized = length-replicate (size_of n b) 0 ∙ ap (λ (k : ℕ). size_of k b) (sym many);
        floor = subst (λ (m : Memory). FloorHolds b m places) blank_is (floored_at_first (first about) n b few small);
        client = subst (λ (m : Memory). rule.holds m places) blank_is h;
      };
      seat = subst (λ (k : ℕ). 0 < k) (sym many) some;
    }
