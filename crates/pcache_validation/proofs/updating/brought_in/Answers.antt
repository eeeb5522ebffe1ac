use Rattle.pcache_validation.proofs.Updates.{brought}
use Rattle.pcache_validation.proofs.updating.brought_in.Goals as goal

pub returns : goal.returns
returns c = record {
  ok = brought c.args.body c.args.new.now c.in_ok-brought.brought c.take_out_named.new.headers c.take_out_of_connection.new.headers
      c.take_out_of_proxy.new.headers c.take_out_of_message.new.headers c.take_out_of_body.new.headers c.keys_len-names.ensures.valid.unique
      c.in_ok-brought.ensures.ok c.take_out_named.ensures c.take_out_of_connection.ensures c.take_out_of_proxy.ensures c.take_out_of_message.ensures
      c.take_out_of_body.ensures;
}
