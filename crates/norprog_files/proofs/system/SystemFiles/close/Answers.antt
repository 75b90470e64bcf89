-- What goes out, by its calls.
use Rattle.std.specs.Io.Buffered.{writer_contents}
use Rattle.norprog_files.proofs.TraceLemmas.{closed_by}
use Rattle.norprog_files.proofs.system.SystemFiles.close.Goals as goal

pub returns-clause-did : goal.returns-clause-did
returns-clause-did g c =
    let out = c.write_out-flushed.ensures.out in
    closed_by c.args._path.now (writer_contents g.D.File.Write.contents c.args.file.inner) c.write_out-flushed.new.file c.write_out-flushed.result c.gone_out.result
    c.args.file.failed c.gone_out.ensures c.write_out-flushed.ensures.kept out.1 out.2
