use Rattle.pcache_files.proofs.folder.read_path.Goals as goal

pub returns-clause-foreign : goal.returns-clause-foreign
returns-clause-foreign g c = λ refused. record {
  opened = c.in_ok-file.file.device;
  found = c.in_ok-file.ensures.opened;
  no_list = c.read_list_from.ensures.refused refused;
}
