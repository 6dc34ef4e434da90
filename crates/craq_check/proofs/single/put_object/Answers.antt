use Rattle.std.proofs.Common.{◌∙◌}
use Rattle.craq_names.specs.Maps.{key_cmp}
use Rattle.craq_check.proofs.Maps.{put_is}
use Rattle.craq_check.proofs.single.put_object.Goals as goal

pub returns : goal.returns
returns c = c.in_ok-insert.ensures.entries ∙ put_is key_cmp c.args.key (c.args.version, c.args.value) c.args.objects.now.entries
