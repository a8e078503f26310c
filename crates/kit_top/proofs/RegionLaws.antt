-- What a file with regions comes to.
use Rattle.std.proofs.Common.{◌≡◌, ap, ◌∙◌}
use Rattle.kit_rules.specs.Need.{need_of}
use Rattle.kit_rules.specs.Parts.{Parts}
use Rattle.kit_rules.specs.Simulation.{simulation, spender}
use Rattle.kit_rules.specs.Text.{simulation_text}
use Rattle.kit_regions.specs.Lowered.{federation_of}
use Rattle.kit_regions.proofs.Same.{same_simulation_law}
use Rattle.kit_regions.proofs.Told.{same_needs_law, same_spender_law, same_text_law}
use Rattle.kit_file.proofs.KeysMean.{plans_mean}
use Rattle.kit_top.specs.Regions.{PlansAreSimulated}
use Rattle.kit_top.proofs.OneCause.{accepted_same}

pub plans_are_simulated_law : PlansAreSimulated
plans_are_simulated_law bytes p plan f a b =
    let same : p ≡ federation_of plan = accepted_same bytes p (federation_of plan) a (b.0, b.1, (plans_mean b.0 plan b.2).federation) in
    record {
      simulated = ap simulation same ∙ same_simulation_law plan f;
      told = ap simulation_text same ∙ same_text_law plan f;
      needs = λ i. ap (λ (p : Parts). need_of p i) same ∙ same_needs_law plan f i;
      spends = ap spender same ∙ same_spender_law plan f;
    }
