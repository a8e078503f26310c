use Rattle.std.proofs.Common.{◌≡◌, ◌≤◌}
use Rattle.std.specs.Prelude.{slice_index}
use Rattle.kit_floor.specs.GuestViews.{IsGuestOf}
use Rattle.letter_threads.specs.Knowing.{known_by}
use Rattle.letter_threads.proofs.watching.watch.Given as goal

abbrev pub invariant-loop-look : goal.invariant-loop-look
invariant-loop-look l =
    IsGuestOf l.floor l.guest
    × (l.sight.first ≤ slice_index (known_by l.floor l.guest) 0)
    × (l.sight.second ≤ slice_index (known_by l.floor l.guest) 1)
    × (l.sight.fell ≡ 0)
