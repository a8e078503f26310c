-- What callers see of a source and of a sink in memory, and what a call does to it.
use Rattle.std.specs.Prelude.{◌≡◌, ◌↔◌, ◌⊎◌, ℕ, ◌-◌, ◌<◌, List, length, Result, IfOk, IsErr}
use Rattle.kit_io.specs.declared.Failed.{Failed}
use Rattle.kit_io.specs.Causes.{CountsFault}
use Rattle.kit_io.specs.Pace.{Pace, IsListed, pace_after_call, count_moved}

-- a source: the bytes that it still gives, its pace, and how often it has failed
pub record MemoryInput : Type 0 where
  pub left : List ℕ
  pub pace : Pace
  pub faults : ℕ

-- a sink: the bytes that it holds, how many it can hold, its pace, and how often it has failed
pub record MemoryOutput : Type 0 where
  pub held : List ℕ
  pub room : ℕ
  pub pace : Pace
  pub faults : ℕ

-- a read fails where its number is listed; else it gives as many bytes as there are, as a call may, and as fit
pub record IsMemoryRead (old : MemoryInput) (result : Result ℕ Failed) (into : List ℕ) (new : MemoryInput) : Type 0 where
  pub fails : IsErr result ↔ IsListed old.pace
  pub gives : IfOk result (λ n. n ≡ count_moved old.pace (length old.left) (length into))
  pub pace : new.pace ≡ pace_after_call old.pace
  pub counts : CountsFault old.faults new.faults result

-- a write that is not listed takes what there is room for, and fails where that is nothing of something
pub record IsMemoryWrite (old : MemoryOutput) (from : List ℕ) (result : Result ℕ Failed) (new : MemoryOutput) : Type 0 where
  pub fails : IsErr result ↔ (IsListed old.pace ⊎ ((0 < length from) × (length old.held ≡ old.room)))
  pub takes : IfOk result (λ n. n ≡ count_moved old.pace (length from) (old.room - length old.held))
  pub room : new.room ≡ old.room
  pub pace : new.pace ≡ pace_after_call old.pace
  pub counts : CountsFault old.faults new.faults result
