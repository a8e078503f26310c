-- A federation comes back.
use Rattle.std.proofs.Common.{◌≡◌, ℕ, ◌≤◌, List, length, map, Ok, codes, refl, arith}
use Rattle.std.specs.List.{All}
use Rattle.std.proofs.lemmas.List.Elements.{All-weaker}
use Rattle.serde_json.specs.Data.{Data}
use Rattle.kit_rules.specs.declared.table.Federate.{Federate}
use Rattle.kit_rules.specs.Names.{IsName}
use Rattle.kit_rules.specs.Parts.{Parts}
use Rattle.kit_rules.specs.Federation.{IsFederation, IsFederate}
use Rattle.kit_rules.specs.Limits.{most_federates}
use Rattle.kit_walk.specs.Places.{object}
use Rattle.kit_file.specs.Walk.{federate_list_of, federation_in, content_after, content_of, walk}
use Rattle.kit_file.proofs.Ranges.{numbers_are_taken, lists_are_taken}
use Rattle.kit_save.specs.Values.{federate_value, federation_value}
use Rattle.kit_save.specs.Widths.{HasWords}
use Rattle.kit_save.specs.Laws.{SaysFederation}
use Rattle.kit_save.proofs.Lists.{values_read}
use Rattle.kit_save.proofs.Federates.{federate_name, names_of, names_taken, federates_taken}
use Rattle.kit_save.proofs.Groups.{groups_taken}

-- each federate has a name
named : (groups : ℕ) (fs : List Federate) → All (IsFederate groups) fs → All (λ f. IsName (federate_name f)) fs
named groups fs is = All-weaker (IsFederate groups) (λ f. IsName (federate_name f)) (λ f h. h.name) fs is

-- the groups and the federates
parts_taken : (p : Parts) (d : Data) → IsFederation p → HasWords p → SaysFederation p d → federation_in 2 p.end p.buffers (names_of p.federates) (map (federate_value p.groups) p.federates) d ≡ Ok p
unfolding federation_in
parts_taken p d is word says =
    rw (
      groups_taken p.federates p.groups d says.groups is.federates.differ is.federates.count.1 is.groups,
      federates_taken p.groups p.federates is.groups.differ is.federates.each word,
    ) refl

-- a federation, from a value with its keys
pub federation_taken : (p : Parts) (d : Data) → IsFederation p → HasWords p → SaysFederation p d → walk d ≡ Ok p
unfolding walk content_of content_after object
federation_taken p d is word says =
    rw (
      says.object,
      numbers_are_taken.version d 2 (rw says.version refl) (omega arith, omega arith),
      numbers_are_taken.end d p.end (rw says.end refl) is.end,
      numbers_are_taken.buffers d p.buffers (rw says.buffers refl) is.buffers,
      values_read (codes "federates") (λ n. (1 ≤ n) × (n ≤ most_federates)) federate_list_of (federate_value p.groups) p.federates d lists_are_taken.federates says.federates is.federates.count,
      names_taken p.groups p.federates is.federates.differ (named (length p.groups) p.federates is.federates.each),
      parts_taken p d is word says,
    ) refl

-- what is written says so
pub federation_said : (p : Parts) → SaysFederation p (federation_value p)
federation_said p = record { object = refl; version = refl; end = refl; buffers = refl; groups = refl; federates = refl }
