use Rattle.std.proofs.Common.{ap, sym}
use Rattle.std.specs.Prelude.{is_some}
use Rattle.std.proofs.lemmas.Result.{on_ok_weaker}
use Rattle.craq_key_map.specs.Mapped.{entries_of}
use Rattle.craq_key_map.proofs.Splitting.{either}
use Rattle.craq_versions.specs.Tables.{table_of}
use Rattle.craq_versions.proofs.Taken.{keeps_room, put_found, rise, was_none}
use Rattle.craq_versions.proofs.Written.{no_list_room, objects_placed, rooms_kept, written_put}
use Rattle.craq_versions.proofs.lists.put_empty.Goals as goal

pub returns-clause-objects : goal.returns-clause-objects
returns-clause-objects g c =
    let m = c.args.lists.now in
    let k = c.insert.new.self in
    let es = entries_of m in
    let gs = entries_of k in
    either c.insert.result c.insert.ensures.ok c.insert.ensures.err
    (λ is. objects_placed es gs c.args.key c.new.result (rise m) (rise k) (sym (was_none m c.args.key c.requires)) (written_put es gs c.args.key c.new.result is) c.new.ensures.versions)
    (λ is. ap (λ xs. (table_of xs).objects) is)

pub returns-clause-room : goal.returns-clause-room
returns-clause-room g c =
    let m = c.args.lists.now in
    let k = c.insert.new.self in
    let es = entries_of m in
    let gs = entries_of k in
    either c.insert.result c.insert.ensures.ok c.insert.ensures.err
    (λ is. rooms_kept es gs c.args.key c.new.result (no_list_room es c.args.key c.new.result.room (sym (was_none m c.args.key c.requires))) (written_put es gs c.args.key c.new.result is))
    (λ is. keeps_room es gs is)

pub returns-clause-placed : goal.returns-clause-placed
returns-clause-placed g c =
    let m = c.args.lists.now in
    let k = c.insert.new.self in
    let es = entries_of m in
    let gs = entries_of k in
    on_ok_weaker c.insert.result (λ is. ap is_some (put_found es gs c.args.key c.new.result is)) c.insert.ensures.ok
