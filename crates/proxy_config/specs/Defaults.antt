-- The configuration of the empty text.
use Rattle.std.specs.Prelude.{None, [], codes}
use Rattle.proxy_config.specs.declared.config.Config.{Config}
use Rattle.proxy_config.specs.declared.config.LimitKeys.{LimitKeys}
use Rattle.proxy_config.specs.declared.config.ProxyKeys.{ProxyKeys}
use Rattle.proxy_config.specs.declared.config.TimeoutKeys.{TimeoutKeys}
use Rattle.proxy_config.specs.declared.overload.OverloadKeys.{OverloadKeys}

abbrev pub default_limits : LimitKeys
default_limits = record {
  write_buffer = 1048576;
  send_buffer = 65536;
  stream_window = 65535;
  connection_window = 1048576;
  max_streams = 100;
  field_list = 61440;
  control_frames = 1000;
  empty_frames = 100;
  peer_resets = 1000;
  quantum = 16384;
  frame_size = 16384;
  overflow_multiple = 0;
}

abbrev pub default_timeouts : TimeoutKeys
default_timeouts = record {
  route = 15000;
  stream_idle = 300000;
  connection_idle = 3600000;
  stream_idle_min = 300000;
  connection_idle_min = 3600000;
}

abbrev pub default_overload : OverloadKeys
default_overload = record { resources = []; class_start = 20; triggers = []; shed = [] }

abbrev pub default_proxy : ProxyKeys
default_proxy = record {
  listen = codes "127.0.0.1:0";
  journal = None;
  workers = 2;
  connections = 1;
  max_connections = 1000;
  accept_rate = 0;
  accept_burst = 1000;
}

abbrev pub config_of_empty : Config
config_of_empty = record {
  limits = default_limits;
  timeouts = default_timeouts;
  clusters = [];
  routes = [];
  overload = default_overload;
  proxy = default_proxy;
}
