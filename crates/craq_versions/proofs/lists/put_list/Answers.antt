use Rattle.std.proofs.Common.{ap}
use Rattle.std.proofs.lemmas.Result.{on_ok_weaker, on_err_weaker}
use Rattle.craq_key_map.specs.Mapped.{entries_of}
use Rattle.craq_key_map.proofs.Splitting.{either}
use Rattle.craq_versions.specs.Tables.{table_of}
use Rattle.craq_versions.proofs.Taken.{keeps_others, rise}
use Rattle.craq_versions.proofs.Written.{objects_more, others_kept, written_put}
use Rattle.craq_versions.proofs.lists.put_list.Goals as goal

pub returns-in-Some-clause-ok : goal.returns-in-Some-clause-ok
returns-in-Some-clause-ok g c =
    let m = c.args.lists.now in
    let k = c.replace.new.self in
    objects_more (entries_of m) (entries_of k) c.args.key c.args.list (rise m) (rise k) (written_put (entries_of m) (entries_of k) c.args.key c.args.list (c.replace.ensures.new c.args.key c.in-Some.ensures.some)) c.requires.some

pub returns-in-Some-clause-rooms : goal.returns-in-Some-clause-rooms
returns-in-Some-clause-rooms g c =
    let m = c.args.lists.now in
    let k = c.replace.new.self in
    others_kept (entries_of m) (entries_of k) c.args.key c.args.list (written_put (entries_of m) (entries_of k) c.args.key c.args.list (c.replace.ensures.new c.args.key c.in-Some.ensures.some))

pub returns-in-None-clause-ok : goal.returns-in-None-clause-ok
returns-in-None-clause-ok g c =
    let m = c.args.lists.now in
    let k = c.insert.new.self in
    let es = entries_of m in
    let gs = entries_of k in
    on_ok_weaker c.insert.result (λ is. objects_more es gs c.args.key c.args.list (rise m) (rise k) (written_put es gs c.args.key c.args.list is) c.requires.some) c.insert.ensures.ok

pub returns-in-None-clause-err : goal.returns-in-None-clause-err
returns-in-None-clause-err g c =
    let m = c.args.lists.now in
    let k = c.insert.new.self in
    let es = entries_of m in
    let gs = entries_of k in
    on_err_weaker c.insert.result (λ is. ap (λ xs. (table_of xs).objects) is) c.insert.ensures.err

pub returns-in-None-clause-rooms : goal.returns-in-None-clause-rooms
returns-in-None-clause-rooms g c =
    let m = c.args.lists.now in
    let k = c.insert.new.self in
    let es = entries_of m in
    let gs = entries_of k in
    either c.insert.result c.insert.ensures.ok c.insert.ensures.err
    (λ is. others_kept es gs c.args.key c.args.list (written_put es gs c.args.key c.args.list is))
    (λ is. keeps_others es gs c.args.key is)
