-- What a mark names (own).
use Rattle.std.specs.Prelude.{ℕ, [], None, refl}
use Rattle.std.specs.Coded.{Coded, code_by, coded×, coded_ℕ}
use Rattle.std.specs.FinMap as map
use Rattle.atomic_table.specs.Seated.{TableId, table_id_coded}
use Rattle.pcache_evict.specs.declared.eviction.policy.EvictionPolicy.TheVariants.{Own}
use Rattle.pcache_evict.specs.Tracked.{limits_of}
use Rattle.pcache_history.specs.Log.{Log}
use Rattle.pcache_history.specs.LogCode.{log_code}

-- one shared world: its table, the world it was made with, and the number of its shares
pub record Opened : Type 0 where
  pub table : TableId
  pub log : Log
  pub shares : ℕ

-- nothing was opened
abbrev pub unopened : Opened
unopened =
    record {
      table = record { words = 0; slots = 0; views_name = 0; atom = 0; block = 0; offset = 0; slot_names = [] };
      log = record { history = []; start = map.empty; limits = limits_of Own 0 None; evicted = record { weight = 0; count = 0 }; age = 0 };
      shares = 0;
    }

-- an encoding, which the value of a model needs
abbrev pub opened_code : Coded Opened
opened_code =
    code_by (TableId × (Log × ℕ)) (coded× table_id_coded (coded× log_code coded_ℕ)) (λ o. (o.table, (o.log, o.shares))) (λ p. record { table = p.0; log = p.1.0; shares = p.1.1 }) (λ _. refl)
