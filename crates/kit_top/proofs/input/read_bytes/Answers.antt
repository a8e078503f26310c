use Rattle.std.proofs.Common.{refl, rules}
use Rattle.kit_top.specs.declared.status.Status.TheVariants.{TooLong, ReadFault}
use Rattle.kit_top.specs.Causes.{InputCausesBy}
use Rattle.kit_top.proofs.Telling.{told_by}
use Rattle.kit_top.proofs.input.read_bytes.Goals as goal

pub returns-in-Ok-clause-whole : goal.returns-in-Ok-clause-whole
returns-in-Ok-clause-whole g c = record { ended = c.in-Ok.ensures.ended; short = c.in-Ok.ensures.short; all = c.in-Ok.ensures.bytes; emptied = c.in-Ok.ensures.emptied }

pub returns-in-Err-TooLong-clause-told : goal.returns-in-Err-TooLong-clause-told
returns-in-Err-TooLong-clause-told g c =
    told_by (InputCausesBy g.S.Source (λ bytes fault. ⊥) c.args.source.now c.read_all.new.source) TooLong _ _ _ c.tell.result (c.in-Err-TooLong.ensures.too_long (search rules), refl) c.tell.ensures.told

pub returns-in-Err-ReadFault-clause-told : goal.returns-in-Err-ReadFault-clause-told
returns-in-Err-ReadFault-clause-told g c =
    let e = c.in-Err-ReadFault.ensures in
    told_by (InputCausesBy g.S.Source (λ bytes fault. ⊥) c.args.source.now c.read_all.new.source) ReadFault _ _ _ c.tell-in-Err-ReadFault.result (e.fault (search rules), e.fault_taken (search rules), refl) c.tell-in-Err-ReadFault.ensures.told
