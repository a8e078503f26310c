-- Groups come back.
use Rattle.std.proofs.Common.{◌≡◌, ◌≢◌, ◌≤◌, List, length, Some, Ok, codes, refl, subst}
use Rattle.std.specs.List.{All}
use Rattle.serde_json.specs.Data.{Data}
use Rattle.serde_json.specs.Find.{get}
use Rattle.kit_rules.specs.declared.table.Group.{Group}
use Rattle.kit_rules.specs.declared.table.Federate.{Federate}
use Rattle.kit_rules.specs.Federation.{IsGroup, AreGroups}
use Rattle.kit_rules.specs.Limits.{most_federates, most_groups}
use Rattle.kit_walk.specs.Paths.{item_path}
use Rattle.kit_walk.specs.Places.{object}
use Rattle.kit_file.specs.Names.{group_name, new_name}
use Rattle.kit_file.specs.Groups.{group_of, group_step, group_list_of, groups_of}
use Rattle.kit_file.proofs.Ranges.{lists_are_taken, names_are_taken}
use Rattle.kit_save.specs.Values.{list_value, group_value}
use Rattle.kit_save.proofs.Lists.{middle, one_more, values_read, list_read, TakesEach}
use Rattle.kit_save.proofs.Names.{Differ, earlier}
use Rattle.kit_save.proofs.Federates.{federate_name, names_of}
use Rattle.kit_save.proofs.Members.{members_taken}

-- a group after others
group_taken : (fs : List Federate) (before : List Group) (g : Group) → Differ federate_name fs → length fs ≤ most_federates → All (λ b. group_name b ≢ g.name) before → IsGroup (length fs) g → group_of (names_of fs) before (group_value fs g) ≡ Ok g
unfolding group_of object new_name
group_taken fs before g differ few apart is =
    rw (
      names_are_taken.form (codes "name") (group_value fs g) g.name refl is.name,
      names_are_taken.groups before (codes "name") g.name apart,
      members_taken fs g.members (group_value fs g) refl differ few is.members,
    ) refl

-- each of them
each_group : (fs : List Federate) (groups : List Group) → Differ federate_name fs → length fs ≤ most_federates → AreGroups (length fs) groups → TakesEach (group_step (names_of fs)) (group_value fs) groups
unfolding group_step
each_group fs groups differ few is before g after at =
    one_more (item_path (codes "groups") (length before)) (group_of (names_of fs) before (group_value fs g)) before g
    (group_taken fs before g differ few
    (earlier group_name before g after (subst (Differ group_name) at is.differ))
    (middle (IsGroup (length fs)) before g after (subst (All (IsGroup (length fs))) at is.each)))

-- the list groups
pub groups_taken : (fs : List Federate) (groups : List Group) (d : Data) → get (codes "groups") d ≡ Some (list_value (group_value fs) groups) → Differ federate_name fs → length fs ≤ most_federates → AreGroups (length fs) groups → groups_of (names_of fs) d ≡ Ok groups
unfolding groups_of
groups_taken fs groups d e differ few is =
    list_read (group_list_of d) (group_step (names_of fs)) (group_value fs) groups
    (values_read (codes "groups") (λ n. n ≤ most_groups) group_list_of (group_value fs) groups d lists_are_taken.groups e is.few)
    (each_group fs groups differ few is)
