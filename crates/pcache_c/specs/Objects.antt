-- The kinds of objects (own).
use Rattle.std.specs.Prelude.{Option, None, Some}
use Rattle.pcache_base.specs.Variance.{Varied}
use Rattle.pcache_control.specs.declared.cache_control.CacheControl.{CacheControl}
use Rattle.pcache_meta.specs.Meta.{Meta}
use Rattle.pcache_meta.specs.declared.header.RequestHeader.{RequestHeader}
use Rattle.pcache_meta.specs.declared.header.ResponseHeader.{ResponseHeader}
use Rattle.pcache_c.specs.declared.object.Object.{Object}
use Rattle.pcache_c.specs.declared.object.Object.TheVariants as object
use Rattle.pcache_c.specs.declared.served.Served.{Served}

abbrev pub as_variance : Object → Option Varied
as_variance (object.Variance v) = Some v
as_variance _ = None

abbrev pub as_asked : Object → Option RequestHeader
as_asked (object.Asked r) = Some r
as_asked _ = None

abbrev pub as_head : Object → Option ResponseHeader
as_head (object.Head h) = Some h
as_head _ = None

abbrev pub as_control : Object → Option CacheControl
as_control (object.Control c) = Some c
as_control _ = None

abbrev pub as_meta : Object → Option Meta
as_meta (object.Meta m) = Some m
as_meta _ = None

-- what a call does to the cache of an object is said of this, before and after it, and not of the box
abbrev pub as_cache : Object → Option Served
as_cache (object.Cache b) = Some b.value
as_cache _ = None
