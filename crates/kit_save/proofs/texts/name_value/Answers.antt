use Rattle.std.proofs.Common.{subst, sym}
use Rattle.std.specs.Prelude.{IsUtf8}
use Rattle.kit_save.proofs.NameTexts.{name_is_text}
use Rattle.kit_save.proofs.texts.name_value.Goals as goal

pub unreachable-requires : goal.unreachable-requires
unreachable-requires c = c.in-Err.ensures.cases.0 (subst IsUtf8 (sym c.bytes.ensures) (name_is_text c.args.name.now c.requires))
