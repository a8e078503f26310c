use Rattle.std.proofs.Common.{◌-◌}
use Rattle.kit_lbts.specs.declared.view.Scheme.TheVariants as scheme
use Rattle.kit_fly.specs.declared.butterfly.Butterfly.{Butterfly}
use Rattle.kit_fly.specs.Rounds.{RoundState, SlotsShowRound}
use Rattle.kit_fly.specs.Stages.{registers_among}
use Rattle.kit_fly.proofs.Polls.{Came}
use Rattle.kit_fly.proofs.butterfly.ButterflyReduction.poll.Given as goal

abbrev pub state_of : Butterfly → RoundState
state_of r = record { federates = r.federates; number = r.me; round = r.round; value = r.value; taken = r.taken }

abbrev pub invariant-loop-self : goal.invariant-loop-self
invariant-loop-self g l = g.G.Ground.came l.initial.ground l.ground
    × Came scheme.Butterfly (state_of l.initial.self) (g.G.Ground.place l.initial.ground) (state_of l.self) (g.G.Ground.place l.ground)
    × SlotsShowRound scheme.Butterfly (state_of l.self) (g.G.Ground.place l.ground)

abbrev pub decreases-loop-self : goal.decreases-loop-self
decreases-loop-self g l = registers_among l.self.federates l.self.stages l.self.me - l.self.taken
