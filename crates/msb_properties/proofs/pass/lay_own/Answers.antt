use Rattle.std.proofs.Common.{◌-◌, length, subst}
use Rattle.build_world.specs.Answers.{GivesFault}
use Rattle.msb_properties.specs.Laid.{lay_within}
use Rattle.msb_properties.specs.Seen.{seen_setting, seen_laid}
use Rattle.msb_properties.proofs.Passing.{kept_still}
use Rattle.msb_properties.proofs.pass.lay_own.Goals as goal

pub returns-clause-laid : goal.returns-clause-laid
returns-clause-laid c =
    subst (λ chain. GivesFault (λ _. seen_laid c.lay_file-laid.new.layout) c.lay_file-laid.result
    (lay_within (64 - length chain) (seen_setting c.args.setting.now) chain
    c.args.setting.now.key.now.path (seen_laid c.args.layout.now)))
    c.new-chain.ensures c.lay_file-laid.ensures.laid

pub returns-clause-kept : goal.returns-clause-kept
returns-clause-kept c =
    kept_still c.lay_file-laid.result _ c.lay_file-laid.new.layout _ c.lay_file-laid.ensures.kept
