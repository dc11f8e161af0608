-- The config layout: offsets and bits of a type 0 header (document 01, "Power-on image"; PCI Local Bus Specification 3.0, 6.1), under the names of config_layout.rs.
use Rattle.std.specs.Prelude.{ℕ}

-- "two images of 256 bytes"
abbrev pub config_space_size : ℕ
config_space_size = 0x100

abbrev pub vendor_id : ℕ
vendor_id = 0x00

-- the vendor that an absent function reads as
abbrev pub absent_vendor_id : ℕ
absent_vendor_id = 0xffff

abbrev pub device_id : ℕ
device_id = 0x02

abbrev pub command : ℕ
command = 0x04

abbrev pub status : ℕ
status = 0x06

abbrev pub revision : ℕ
revision = 0x08

abbrev pub programming_interface : ℕ
programming_interface = 0x09

abbrev pub subclass : ℕ
subclass = 0x0a

abbrev pub base_class : ℕ
base_class = 0x0b

abbrev pub cache_line_size : ℕ
cache_line_size = 0x0c

abbrev pub latency_timer : ℕ
latency_timer = 0x0d

abbrev pub header_type : ℕ
header_type = 0x0e

-- the six registers lie from 0x10 up to 0x28, four bytes each
abbrev pub bar_start : ℕ
bar_start = 0x10

abbrev pub bar_end : ℕ
bar_end = 0x28

abbrev pub bar_register_size : ℕ
bar_register_size = 4

abbrev pub bar_count : ℕ
bar_count = 6

abbrev pub subsystem_vendor_id : ℕ
subsystem_vendor_id = 0x2c

abbrev pub subsystem_device_id : ℕ
subsystem_device_id = 0x2e

abbrev pub capability_pointer : ℕ
capability_pointer = 0x34

abbrev pub interrupt_line : ℕ
interrupt_line = 0x3c

abbrev pub interrupt_pin : ℕ
interrupt_pin = 0x3d

-- "Capabilities start at 0x40"
abbrev pub standard_header_end : ℕ
standard_header_end = 0x40

-- command bits 1 and 2, in the byte at 0x04, and 10, in that at 0x05
abbrev pub memory_space_enable : ℕ
memory_space_enable = 0x02

abbrev pub bus_master_enable : ℕ
bus_master_enable = 0x04

abbrev pub interrupt_disable : ℕ
interrupt_disable = 0x04

-- "With any capability, status gets 0x10"
abbrev pub capabilities_list : ℕ
capabilities_list = 0x10
