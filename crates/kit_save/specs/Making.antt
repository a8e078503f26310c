-- What an object that is being made has so far.
use Rattle.serde_json.specs.Data.{Members}
use Rattle.serde_json.specs.View.{members_view}
use Rattle.kit_save.specs.declared.objects.ObjectWriter.{ObjectWriter}

-- its members
abbrev pub written : ObjectWriter → Members
written o = members_view o.members.entries
